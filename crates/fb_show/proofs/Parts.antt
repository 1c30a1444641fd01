-- The texts that a shown term's parts stand in.
use Rattle.std.proofs.Common.{◌≡◌, ℕ, suc, Bool, true, false, List, [], ◌++◌, refl, sym}
use Rattle.std.specs.Prelude.{codes, slice_index_or}
use Rattle.ld_terms.specs.Tree as tree
use Rattle.ld_terms.specs.Tree.{Tree, Trees, Var, App, Lam, Pi, Const, Nil, ◌▸◌}
use Rattle.fb_parse.specs.Grammar.{Surface, Surfaces, Star, Box_, Name, Inst, Apply, Fun, All, Arrow, none, more}
use Rattle.fb_write.specs.Canonical.{term_text, terms_text, is_compound, is_open_ended}
use Rattle.fb_show.specs.Display.{avoids, applied, behind, instance, product, shown, all_shown}
use Rattle.fb_show.specs.Shown.{filling_text, domain_text, before_text, is_compound_tree, is_open_tree}
use Rattle.fb_show.proofs.TextsOf.{first_text, later_text}

applied_compound : (f a : Surface) → is_compound (applied f a) ≡ true
applied_compound (Apply s f us) a = refl
applied_compound (Star s) a = refl
applied_compound (Box_ s) a = refl
applied_compound (Name s x) a = refl
applied_compound (Inst s x us) a = refl
applied_compound (Fun s x b m) a = refl
applied_compound (All s x a b) c = refl
applied_compound (Arrow s a b) c = refl

applied_closed : (f a : Surface) → is_open_ended (applied f a) ≡ false
applied_closed (Apply s f us) a = refl
applied_closed (Star s) a = refl
applied_closed (Box_ s) a = refl
applied_closed (Name s x) a = refl
applied_closed (Inst s x us) a = refl
applied_closed (Fun s x b m) a = refl
applied_closed (All s x a b) c = refl
applied_closed (Arrow s a b) c = refl

product_compound : (unused : Bool) (x : List ℕ) (a b : Surface) → is_compound (product unused x a b) ≡ true
product_compound true x a b = refl
product_compound false x a b = refl

product_open : (unused : Bool) (x : List ℕ) (a b : Surface) → is_open_ended (product unused x a b) ≡ true
product_open true x a b = refl
product_open false x a b = refl

instance_plain : (x : List ℕ) (us : Surfaces) → is_compound (instance x us) ≡ false
instance_plain x none = refl
instance_plain x (more a us) = refl

instance_closed : (x : List ℕ) (us : Surfaces) → is_open_ended (instance x us) ≡ false
instance_closed x none = refl
instance_closed x (more a us) = refl

module _ (name : ℕ → List ℕ) (names : List (List ℕ)) where
  pub compound_shown : (d : ℕ) (t : Tree) → is_compound (shown name names d t) ≡ is_compound_tree t
  compound_shown d tree.Star = refl
  compound_shown d tree.Box = refl
  compound_shown d (Var i) = refl
  compound_shown d (App f u) = applied_compound (shown name names d f) (shown name names d u)
  compound_shown d (Lam a m) = refl
  compound_shown d (Pi a b) = product_compound (avoids b 0) (name d) (shown name names d a) (shown name names (suc d) b)
  compound_shown d (Const k us) = instance_plain (slice_index_or names k []) (all_shown name names d us)

  pub open_shown : (d : ℕ) (t : Tree) → is_open_ended (shown name names d t) ≡ is_open_tree t
  open_shown d tree.Star = refl
  open_shown d tree.Box = refl
  open_shown d (Var i) = refl
  open_shown d (App f u) = applied_closed (shown name names d f) (shown name names d u)
  open_shown d (Lam a m) = refl
  open_shown d (Pi a b) = product_open (avoids b 0) (name d) (shown name names d a) (shown name names (suc d) b)
  open_shown d (Const k us) = instance_closed (slice_index_or names k []) (all_shown name names d us)

-- The texts of lists that aren't empty.
pub filling_behind : (us : Surfaces) (a : Surface) → codes "(" ++ terms_text (behind us a) ++ codes ")" ≡ filling_text (behind us a)
filling_behind none a = refl
filling_behind (more b us) a = refl

pub before_behind : (us : Surfaces) (a : Surface) → terms_text (behind us a) ++ codes ", " ≡ before_text (behind us a)
before_behind none a = refl
before_behind (more b us) a = refl

pub behind_text : (us : Surfaces) (a : Surface) → before_text us ++ term_text a ≡ terms_text (behind us a)
behind_text none a = sym (first_text a)
behind_text (more b us) a = sym (later_text b a us)

-- the text of a product
pub product_text : (unused : Bool) (x : List ℕ) (a b : Surface) → domain_text unused x a ++ term_text b ≡ term_text (product unused x a b)
product_text true x a b = refl
product_text false x a b = refl

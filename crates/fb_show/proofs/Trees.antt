-- Trees that are pushed behind others.
use Rattle.std.proofs.Common.{◌≡◌, ℕ, false, List, [], ◌∷◌, ◌++◌, length, ◌==◌, refl, ap, sym}
use Rattle.fb_parse.specs.declared.tree.Tree.{Tree}
use Rattle.fb_parse.specs.Grammar.{Surface, Surfaces, Star, Box_, Name, Inst, Apply, Fun, All, Arrow, none, more}
use Rattle.fb_parse.specs.View.{view, views}
use Rattle.fb_write.specs.Canonical.{nowhere}
use Rattle.fb_show.specs.Display.{applied, behind, instance}
use Rattle.fb_show.specs.Shown.{whole, is_apply}
use Rattle.std.proofs.lemmas.Bool.{false≢true}

pub views_push : (ts : List Tree) (t : Tree) → views (ts ++ t ∷ []) ≡ behind (views ts) (view t)
views_push [] t = refl
views_push (s ∷ ts) t = ap (more (view s)) (views_push ts t)

alone : (f a : Surface) → is_apply f ≡ false → applied f a ≡ Apply nowhere f (more a none)
alone (Apply s f us) a h = absurd (false≢true (sym h))
alone (Star s) a h = refl
alone (Box_ s) a h = refl
alone (Name s x) a h = refl
alone (Inst s x us) a h = refl
alone (Fun s x b m) a h = refl
alone (All s x b m) a h = refl
alone (Arrow s b m) a h = refl

-- one more argument of the whole
pub whole_more : (f a : Surface) (us : Surfaces) → is_apply f ≡ false → applied (whole f us) a ≡ whole f (behind us a)
whole_more f a none h = alone f a h
whole_more f a (more b us) h = refl

pub whole_apply : (f a : Surface) (us : Surfaces) → is_apply f ≡ false → applied (whole f us) a ≡ Apply nowhere f (behind us a)
whole_apply f a none h = alone f a h
whole_apply f a (more b us) h = refl

pub some_arguments : (x : List ℕ) (ts : List Tree) → false ≡ (length ts == 0) → Inst nowhere x (views ts) ≡ instance x (views ts)
some_arguments x [] h = absurd (false≢true h)
some_arguments x (t ∷ ts) h = refl

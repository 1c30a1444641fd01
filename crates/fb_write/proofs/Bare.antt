-- Whether a tree is writable doesn't depend on its spans.
use Rattle.std.proofs.Common.{◌≡◌, ℕ, Bool, refl, sym, subst}
use Rattle.fb_parse.specs.Grammar.{Surface, Surfaces, Star, Box_, Name, Inst, Apply, Fun, All, Arrow, none, more}
use Rattle.fb_write.specs.Canonical.{is_open_ended, is_compound, bare, all_bare}
use Rattle.fb_write.specs.Writable.{inside, IsWritable, AreWritable, AreArguments}
use Rattle.fb_write.specs.ReadBack.{SpansDontCount}

bare_compound : (a : Surface) → is_compound (bare a) ≡ is_compound a
bare_compound (Star s) = refl
bare_compound (Box_ s) = refl
bare_compound (Name s x) = refl
bare_compound (Inst s x us) = refl
bare_compound (Apply s f us) = refl
bare_compound (Fun s x a m) = refl
bare_compound (All s x a m) = refl
bare_compound (Arrow s a b) = refl

bare_open : (a : Surface) → is_open_ended (bare a) ≡ is_open_ended a
bare_open (Star s) = refl
bare_open (Box_ s) = refl
bare_open (Name s x) = refl
bare_open (Inst s x us) = refl
bare_open (Apply s f us) = refl
bare_open (Fun s x a m) = refl
bare_open (All s x a m) = refl
bare_open (Arrow s a b) = refl

inside_same : (n : ℕ) {a : Surface} (c d : Bool) → c ≡ d → IsWritable (inside c n) a → IsWritable (inside d n) a
inside_same n {a} c d e p = subst (λ v. IsWritable (inside v n) a) e p

mutual
  pub to_bare : {n : ℕ} {a : Surface} → IsWritable n a → IsWritable n (bare a)
  to_bare (IsWritable.star l) = IsWritable.star l
  to_bare (IsWritable.box l) = IsWritable.box l
  to_bare (IsWritable.named l x) = IsWritable.named l x
  to_bare (IsWritable.instance l x p ps) = IsWritable.instance l x (to_bare p) (all_to_bare ps)
  to_bare {n = n} (IsWritable.apply {f = f} {a = a} {us = us} l p ps) = IsWritable.apply l (inside_same n (is_compound f) (is_compound (bare f)) (sym (bare_compound f)) (to_bare p)) (arguments_to_bare ps)
  to_bare (IsWritable.fun l x p q) = IsWritable.fun l x (to_bare p) (to_bare q)
  to_bare (IsWritable.all l x p q) = IsWritable.all l x (to_bare p) (to_bare q)
  to_bare {n = n} (IsWritable.arrow {a = a} l p q) = IsWritable.arrow l (inside_same n (is_open_ended a) (is_open_ended (bare a)) (sym (bare_open a)) (to_bare p)) (to_bare q)

  pub all_to_bare : {n : ℕ} {us : Surfaces} → AreWritable n us → AreWritable n (all_bare us)
  all_to_bare AreWritable.nothing = AreWritable.nothing
  all_to_bare (AreWritable.term p ps) = AreWritable.term (to_bare p) (all_to_bare ps)

  arguments_to_bare : {n : ℕ} {us : Surfaces} → AreArguments n us → AreArguments n (all_bare us)
  arguments_to_bare AreArguments.no_argument = AreArguments.no_argument
  arguments_to_bare {n = n} (AreArguments.argument {a = a} p ps) = AreArguments.argument (inside_same n (is_compound a) (is_compound (bare a)) (sym (bare_compound a)) (to_bare p)) (arguments_to_bare ps)

mutual
  pub from_bare : {n : ℕ} (a : Surface) → IsWritable n (bare a) → IsWritable n a
  from_bare (Star s) (IsWritable.star l) = IsWritable.star l
  from_bare (Box_ s) (IsWritable.box l) = IsWritable.box l
  from_bare (Name s x) (IsWritable.named l i) = IsWritable.named l i
  from_bare (Inst s x (more a us)) (IsWritable.instance l i p ps) = IsWritable.instance l i (from_bare a p) (all_from_bare us ps)
  from_bare (Inst s x none) w = elim w [ ]
  from_bare (Apply s f none) w = elim w [ ]
  from_bare {n = n} (Apply s f (more a us)) (IsWritable.apply l p ps) =
      IsWritable.apply l (from_bare f (inside_same n (is_compound (bare f)) (is_compound f) (bare_compound f) p)) (arguments_from_bare (more a us) ps)
  from_bare (Fun s x a m) (IsWritable.fun l i p q) = IsWritable.fun l i (from_bare a p) (from_bare m q)
  from_bare (All s x a m) (IsWritable.all l i p q) = IsWritable.all l i (from_bare a p) (from_bare m q)
  from_bare {n = n} (Arrow s a b) (IsWritable.arrow l p q) =
      IsWritable.arrow l (from_bare a (inside_same n (is_open_ended (bare a)) (is_open_ended a) (bare_open a) p)) (from_bare b q)

  pub all_from_bare : {n : ℕ} (us : Surfaces) → AreWritable n (all_bare us) → AreWritable n us
  all_from_bare none AreWritable.nothing = AreWritable.nothing
  all_from_bare (more a us) (AreWritable.term p ps) = AreWritable.term (from_bare a p) (all_from_bare us ps)

  arguments_from_bare : {n : ℕ} (us : Surfaces) → AreArguments n (all_bare us) → AreArguments n us
  arguments_from_bare none AreArguments.no_argument = AreArguments.no_argument
  arguments_from_bare {n = n} (more a us) (AreArguments.argument p ps) =
      AreArguments.argument (from_bare a (inside_same n (is_compound (bare a)) (is_compound a) (bare_compound a) p)) (arguments_from_bare us ps)

pub spans_dont_count : SpansDontCount
spans_dont_count a b e p = from_bare b (subst (IsWritable 1) e (to_bare p))

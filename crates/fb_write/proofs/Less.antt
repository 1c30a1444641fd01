-- A tree that can be written at one nesting can be at a smaller one, and whatever its spans are.
use Rattle.std.proofs.Common.{ℕ, ◌+◌, ◌≤◌, Bool, true, false, arith}
use Rattle.fb_parse.specs.Grammar.{Surface, Surfaces}
use Rattle.fb_write.specs.Canonical.{is_open_ended, is_compound}
use Rattle.fb_write.specs.Writable.{inside, IsWritable, AreWritable, AreArguments}

inside_less : (c : Bool) {m n : ℕ} → m ≤ n → inside c m ≤ inside c n
inside_less true h = omega arith
inside_less false h = h

pub inside_within : (c : Bool) (n : ℕ) → inside c n ≤ n + 1
inside_within true n = omega arith
inside_within false n = omega arith

pub inside_from : (c : Bool) (n : ℕ) → n ≤ inside c n
inside_from true n = omega arith
inside_from false n = omega arith

less : {m n : ℕ} → m ≤ n → n ≤ 500 → m ≤ 500
less h l = omega (arith, h, l)

next : {m n : ℕ} → m ≤ n → m + 1 ≤ n + 1
next h = omega (arith, h)

mutual
  pub writable_less : {m n : ℕ} {t : Surface} → m ≤ n → IsWritable n t → IsWritable m t
  writable_less h (IsWritable.star l) = IsWritable.star (less h l)
  writable_less h (IsWritable.box l) = IsWritable.box (less h l)
  writable_less h (IsWritable.named l x) = IsWritable.named (less h l) x
  writable_less h (IsWritable.instance l x p ps) = IsWritable.instance (less h l) x (writable_less (next h) p) (all_less (next h) ps)
  writable_less h (IsWritable.apply {f = f} l p ps) = IsWritable.apply (less h l) (writable_less (inside_less (is_compound f) h) p) (arguments_less h ps)
  writable_less h (IsWritable.fun l x p q) = IsWritable.fun (less h l) x (writable_less (next h) p) (writable_less (next h) q)
  writable_less h (IsWritable.all l x p q) = IsWritable.all (less h l) x (writable_less (next h) p) (writable_less (next h) q)
  writable_less h (IsWritable.arrow {a = a} l p q) = IsWritable.arrow (less h l) (writable_less (inside_less (is_open_ended a) h) p) (writable_less (next h) q)

  all_less : {m n : ℕ} {us : Surfaces} → m ≤ n → AreWritable n us → AreWritable m us
  all_less h AreWritable.nothing = AreWritable.nothing
  all_less h (AreWritable.term p ps) = AreWritable.term (writable_less h p) (all_less h ps)

  arguments_less : {m n : ℕ} {us : Surfaces} → m ≤ n → AreArguments n us → AreArguments m us
  arguments_less h AreArguments.no_argument = AreArguments.no_argument
  arguments_less h (AreArguments.argument {a = a} p ps) = AreArguments.argument (writable_less (inside_less (is_compound a) h) p) (arguments_less h ps)

-- A part that stands in parentheses, behind a binder, in an instance or beside an arrow is one deeper and one lower. Along the spine of an
-- application the nesting stays and the height falls. So nesting and height together don't grow.
use Rattle.std.proofs.Common.{◌≡◌, ℕ, suc, ◌+◌, ◌-◌, ◌<◌, ◌≤◌, Bool, true, false, List, [], length, arith}
use Rattle.std.specs.Prelude.{slice_index_or}
use Rattle.std.proofs.lemmas.Option.{slice_get-get_or, slice_get_within}
use Rattle.ld_terms.specs.Tree as tree
use Rattle.ld_terms.specs.Tree.{Tree, Trees, Var, App, Lam, Pi, Const, Nil, ◌▸◌, count}
use Rattle.ld_terms.specs.Item.{height, greatest_height}
use Rattle.fb_parse.specs.Grammar.{Surface, Surfaces, Star, Box_, Name, Inst, Apply, Fun, All, Arrow, none, more}
use Rattle.fb_write.specs.Canonical.{nowhere, is_compound, is_open_ended}
use Rattle.fb_write.specs.Writable as can
use Rattle.fb_lex.specs.Tokens.{IsName}
use Rattle.fb_write.specs.Writable.{inside, IsWritable, AreWritable, AreArguments}
use Rattle.fb_show.specs.Display.{level_name, avoids, behind, applied, instance, product, all_shown, display}
use Rattle.fb_show.specs.Formed.{IsFormed, AreFormed}
use Rattle.fb_show.specs.Laws.{AreNames, ShownIsWritable}
use Rattle.fb_show.proofs.NamesOk.{level_is_name}

inside_fits : (b : Bool) (n h : ℕ) → n + 1 + h ≤ 501 → inside b n + h ≤ 501
inside_fits true n h l = l
inside_fits false n h l = omega (arith, l)

more_written : {n : ℕ} {us : Surfaces} {a : Surface} → AreWritable n us → IsWritable n a → AreWritable n (behind us a)
more_written can.nothing w = can.term w can.nothing
more_written (can.term b us) w = can.term b (more_written us w)

more_arguments : {n : ℕ} {us : Surfaces} {a : Surface} → AreArguments n us → IsWritable (inside (is_compound a) n) a → AreArguments n (behind us a)
more_arguments can.no_argument w = can.argument w can.no_argument
more_arguments (can.argument b us) w = can.argument b (more_arguments us w)

first_argument : {n : ℕ} {f a : Surface} → n ≤ 500 → IsWritable (inside (is_compound f) n) f → IsWritable (inside (is_compound a) n) a → IsWritable n (Apply nowhere f (more a none))
first_argument l f a = can.apply l f (can.argument a can.no_argument)

-- the head as a term of its own, or as a part
applied_written : {n : ℕ} (f : Surface) {a : Surface} → n ≤ 500 → IsWritable n f → IsWritable (inside (is_compound f) n) f → IsWritable (inside (is_compound a) n) a → IsWritable n (applied f a)
applied_written (Apply s f us) l (can.apply _ g args) p w = can.apply l g (more_arguments args w)
applied_written (Star s) l h p w = first_argument l p w
applied_written (Box_ s) l h p w = first_argument l p w
applied_written (Name s x) l h p w = first_argument l p w
applied_written (Inst s x us) l h p w = first_argument l p w
applied_written (Fun s x b m) l h p w = first_argument l p w
applied_written (All s x b m) l h p w = first_argument l p w
applied_written (Arrow s b m) l h p w = first_argument l p w

instance_written : {n : ℕ} {x : List ℕ} {us : Surfaces} → n ≤ 500 → IsName x → AreWritable (n + 1) us → IsWritable n (instance x us)
instance_written l x can.nothing = can.named l x
instance_written l x (can.term a us) = can.instance l x a us

product_written : {n : ℕ} (unused : Bool) {x : List ℕ} {a b : Surface} → n ≤ 500 → IsName x → IsWritable (n + 1) a → IsWritable (inside (is_open_ended a) n) a → IsWritable (n + 1) b → IsWritable n (product unused x a b)
product_written true l x a p b = can.arrow l p b
product_written false l x a p b = can.all l x a b

module _ (names : List (List ℕ)) (params : List ℕ) (are : AreNames names) (all : length names ≡ length params) (levels : ℕ) (named : (i : ℕ) → i < levels → IsName (level_name names i)) where
  mutual
    writes : (t : Tree) (d n : ℕ) → n + height t ≤ 501 → d + height t ≤ levels → IsFormed params d t → IsWritable n (display names d t)
    writes tree.Star d n l b f = can.star (omega (arith, l))
    writes tree.Box d n l b f = can.box (omega (arith, l))
    writes (Var i) d n l b f = can.named (omega (arith, l)) (named (d - suc i) (omega (arith, b, f)))
    writes (App g u) d n l b f =
        applied_written (display names d g) (omega (arith, l)) (writes g d n (omega (arith, l)) (omega (arith, b)) f.0)
        (writes g d (inside (is_compound (display names d g)) n) (inside_fits (is_compound (display names d g)) n (height g) (omega (arith, l))) (omega (arith, b)) f.0)
        (writes u d (inside (is_compound (display names d u)) n) (inside_fits (is_compound (display names d u)) n (height u) (omega (arith, l))) (omega (arith, b)) f.1)
    writes (Lam a m) d n l b f = can.fun (omega (arith, l)) (named d (omega (arith, b))) (writes a d (n + 1) (omega (arith, l)) (omega (arith, b)) f.0) (writes m (suc d) (n + 1) (omega (arith, l)) (omega (arith, b)) f.1)
    writes (Pi a m) d n l b f =
        product_written (avoids m 0) (omega (arith, l)) (named d (omega (arith, b))) (writes a d (n + 1) (omega (arith, l)) (omega (arith, b)) f.0)
        (writes a d (inside (is_open_ended (display names d a)) n) (inside_fits (is_open_ended (display names d a)) n (height a) (omega (arith, l))) (omega (arith, b)) f.0)
        (writes m (suc d) (n + 1) (omega (arith, l)) (omega (arith, b)) f.1)
    writes (Const k us) d n l b f =
        instance_written (omega (arith, l)) (are k (slice_index_or names k []) (slice_get-get_or names k [] (let m = slice_get_within params k (count us) f.0 in omega (arith, m, all))))
        (all_write us d (n + 1) (omega (arith, l)) (omega (arith, b)) f.1)

    all_write : (us : Trees) (d n : ℕ) → n + greatest_height us ≤ 501 → d + greatest_height us ≤ levels → AreFormed params d us → AreWritable n (all_shown (level_name names) names d us)
    all_write Nil d n l b f = can.nothing
    all_write (us ▸ u) d n l b f = more_written (all_write us d n (omega (arith, l)) (omega (arith, b)) f.0) (writes u d n (omega (arith, l)) (omega (arith, b)) f.1)

pub shown_is_writable : ShownIsWritable
shown_is_writable names params d t are all h l short f =
    writes names params are all (d + height t) (λ i lt. level_is_name names i (omega (arith, lt, l)) (short i lt)) t d 1 (omega (arith, h)) (omega arith) f

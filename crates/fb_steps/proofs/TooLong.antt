-- Work is too long where its first part is, or where its second part is too long behind the items of the first.
use Rattle.std.proofs.Common.{◌≡◌, ◌+◌, ◌-◌, ℕ, List, [], ◌∷◌, ◌++◌, ap, arith, sym, subst, ◌∙◌}
use Rattle.ld_reduce.specs.Task.{Pairs}
use Rattle.fb_steps.specs.Items.{Item}
use Rattle.fb_steps.specs.Work as work
use Rattle.fb_steps.specs.Work.{Done, Ending, Work, ◌>>=◌}
use Rattle.fb_steps.specs.Long.{IsTooLong, length_by}
use Rattle.fb_steps.specs.Once.{EndsOnce}
use Rattle.fb_steps.proofs.OneEnd.{done_injective, no_value}

length_of_both : (size : Item → ℕ) (is js : List Item) → length_by size (is ++ js) ≡ length_by size is + length_by size js
length_of_both size [] js = omega arith
length_of_both size (i ∷ is) js = let h = length_of_both size is js in omega (arith, h)

pub first_too_long : {X Y : Type 0} (size : Item → ℕ) (most : ℕ) (w : Work X) (f : X → Work Y) (K : Pairs) (left lines : ℕ) →
    IsTooLong size most w K left lines → IsTooLong size most (w >>= f) K left lines
first_too_long size most w f K left lines h r items L n i (work.◌>>=◌.goes_on x between first second n1 n2 j1 a b e q) =
    let lt = h (Done x) first between n1 j1 a in
    let both = ap (length_by size) e ∙ length_of_both size first second in
    omega (arith, lt, both)
first_too_long size most w f K left lines h r items L n i (work.◌>>=◌.ends stop a e) = h stop items L n i a

pub second_too_long : {X Y : Type 0} (size : Item → ℕ) (most rest : ℕ) (w : Work X) (f : X → Work Y) (K B : Pairs) (left lines n1 j1 : ℕ) (x : X) (first : List Item) →
    EndsOnce w → w K left lines (Done x) first B n1 j1 → most ≡ length_by size first + rest → IsTooLong size rest (f x) B (left - n1) j1 → IsTooLong size most (w >>= f) K left lines
second_too_long size most rest w f K B left lines n1 j1 x first once a e h r items L n i (work.◌>>=◌.goes_on y C front second m1 m2 k1 c b same q) =
    let o = once K B C left lines (Done x) (Done y) first front n1 m1 j1 k1 a c in
    let b1 = subst (λ z. f z C (left - m1) k1 r second L m2 i) (sym (done_injective o.ending)) b in
    let b2 = subst (λ M. f x M (left - m1) k1 r second L m2 i) (sym o.known) b1 in
    let b3 = subst (λ l. f x B (left - l) k1 r second L m2 i) (sym o.steps) b2 in
    let lt = h r second L m2 i (subst (λ l. f x B (left - n1) l r second L m2 i) (sym o.lines) b3) in
    let fronts = ap (length_by size) o.items in
    let both = ap (length_by size) same ∙ length_of_both size front second in
    omega (arith, lt, e, fronts, both)
second_too_long size most rest w f K B left lines n1 j1 x first once a e h r items L n i (work.◌>>=◌.ends stop c g) =
    let o = once K B L left lines (Done x) stop first items n1 n j1 i a c in absurd (no_value (subst (λ v. work.Ends v r) (sym o.ending) g))

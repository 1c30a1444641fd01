-- Trees with alike heads and convertible parts are convertible.
use Rattle.std.proofs.Common.{◌≡◌, ◌==◌, ℕ, true, List, [], ◌∷◌, ◌++◌, Some, sym, subst, arith}
use Rattle.std.proofs.lemmas.Bool.Decides.{nat_tests}
use Rattle.ld_terms.specs.Tree.{Tree, Star, Box, Var, App, Lam, Pi, Const, Trees, Nil, ◌▸◌}
use Rattle.ld_terms.specs.Entry.{Env}
use Rattle.ld_terms.specs.Step.{Step, StepIn, Converts}
use Rattle.ld_laws.specs.Heads.{Alike, ConvertsEach}
use Rattle.ld_convert.specs.Apart.{Part, part, arguments, parts_of}
use Rattle.ld_convert.proofs.Agreeing.{some_injective, none_some}
use Rattle.ld_convert.proofs.AlikeParts.{AllConvert}
use Rattle.ld_convert.proofs.Congruent.{was_then, where_true}

last_of_all : (env : Env) (p : Part) (ps : List Part) → AllConvert env (ps ++ p ∷ []) → AllConvert env ps × Converts env p.left p.right
last_of_all env p [] all = (tt, all.0)
last_of_all env p (q ∷ ps) all = let r = last_of_all env p ps all.1 in ((all.0, r.0), r.1)

one_number : (k j : ℕ) → (k == j) ≡ true → k ≡ j
one_number k j e = grind (arith, nat_tests)

-- the parts of two trees say how these are alike
each_by_parts : (env : Env) (us vs : Trees) (ps : List Part) → arguments us vs ≡ Some ps → AllConvert env ps → ConvertsEach env us vs
each_by_parts env Nil Nil ps h all = ConvertsEach.none
each_by_parts env (us ▸ u) (vs ▸ v) ps h all =
    let q = was_then (arguments us vs) (part u v 0) ps h in
    let r = last_of_all env (part u v 0) q.front (subst (AllConvert env) q.all all) in
    ConvertsEach.more (each_by_parts env us vs q.front q.is r.0) r.1
each_by_parts env Nil (vs ▸ v) ps h all = absurd (none_some h)
each_by_parts env (us ▸ u) Nil ps h all = absurd (none_some h)

two_parts : (env : Env) (a b c d : Tree) (u : ℕ) (ps : List Part) → Some (part a b 0 ∷ part c d u ∷ []) ≡ Some ps → AllConvert env ps → Converts env a b × Converts env c d
two_parts env a b c d u ps h all = let r = subst (AllConvert env) (sym (some_injective h)) all in (r.0, r.1.0)

alike_by_parts : (env : Env) (a b : Tree) (ps : List Part) → parts_of a b ≡ Some ps → AllConvert env ps → Alike env a b
alike_by_parts env Star Star ps h all = Alike.star
alike_by_parts env Box Box ps h all = Alike.box
alike_by_parts env (Var i) (Var j) ps h all =
    subst (λ k. Alike env (Var i) (Var k)) (one_number i j (where_true (i == j) (Some []) ps h).0) Alike.variable
alike_by_parts env (Lam a m) (Lam b n) ps h all = let r = two_parts env a b m n 1 ps h all in Alike.abstraction r.0 r.1
alike_by_parts env (Pi a m) (Pi b n) ps h all = let r = two_parts env a b m n 1 ps h all in Alike.product r.0 r.1
alike_by_parts env (Const k us) (Const l vs) ps h all =
    let q = where_true (k == l) (arguments us vs) ps h in
    subst (λ j. Alike env (Const k us) (Const j vs)) (one_number k l q.0) (Alike.instance_of (each_by_parts env us vs ps q.1 all))
alike_by_parts env (App f u) (App g v) ps h all =
    let q = was_then (parts_of f g) (part u v 0) ps h in
    let r = last_of_all env (part u v 0) q.front (subst (AllConvert env) q.all all) in
    Alike.applied (alike_by_parts env f g q.front q.is r.0) r.1
alike_by_parts env a b ps h all = absurd (none_some h)

-- conversion of a part
under : {env : Env} {t u : Tree} (f : Tree → Tree) → ((t u : Tree) → Step env t u → Step env (f t) (f u)) → Converts env t u → Converts env (f t) (f u)
under f h (Converts.step s) = Converts.step (h _ _ s)
under f h Converts.same = Converts.same
under f h (Converts.back c) = Converts.back (under f h c)
under f h (Converts.chain c d) = Converts.chain (under f h c) (under f h d)

each_under : {env : Env} {us vs : Trees} → ConvertsEach env us vs → (f : Trees → Tree) → ((us vs : Trees) → StepIn env us vs → Step env (f us) (f vs)) → Converts env (f us) (f vs)
each_under ConvertsEach.none f h = Converts.same
each_under (ConvertsEach.more {us = us} {vs = vs} {u = u} {v = v} cs c) f h =
    Converts.chain (each_under cs (λ ws. f (ws ▸ u)) (λ xs ys s. h (xs ▸ u) (ys ▸ u) (StepIn.before s)))
    (under (λ x. f (vs ▸ x)) (λ x y s. h (vs ▸ x) (vs ▸ y) (StepIn.last s)) c)

alike_convert : {env : Env} {a b : Tree} → Alike env a b → Converts env a b
alike_convert Alike.star = Converts.same
alike_convert Alike.box = Converts.same
alike_convert Alike.variable = Converts.same
alike_convert (Alike.abstraction {A = a} {B = b} {M = m} {N = n} h k) =
    Converts.chain (under (λ x. Lam x m) (λ x y s. Step.in_lam_type s) h) (under (λ x. Lam b x) (λ x y s. Step.in_lam_body s) k)
alike_convert (Alike.product {A = a} {B = b} {C = c} {D = d} h k) =
    Converts.chain (under (λ x. Pi x b) (λ x y s. Step.in_pi_type s) h) (under (λ x. Pi c x) (λ x y s. Step.in_pi_body s) k)
alike_convert (Alike.instance_of {k = k} h) = each_under h (Const k) (λ xs ys s. Step.in_instance s)
alike_convert (Alike.applied {f = f} {g = g} {u = u} {v = v} h k) =
    Converts.chain (under (λ x. App x u) (λ x y s. Step.in_function s) (alike_convert h)) (under (λ x. App g x) (λ x y s. Step.in_argument s) k)

pub parts_convert : (env : Env) (a b : Tree) (ps : List Part) → parts_of a b ≡ Some ps → AllConvert env ps → Converts env a b
parts_convert env a b ps h all = alike_convert (alike_by_parts env a b ps h all)

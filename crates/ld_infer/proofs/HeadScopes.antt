-- Steps at the head lead from trees over some variables to trees over those variables.
use Rattle.std.proofs.Common.{◌≡◌, ◌==◌, ℕ, suc, Bool, true, false, Option, None, Some, slice_get, refl, subst, arith, inl, inr, ◌⊎◌}
use Rattle.std.proofs.lemmas.Bool.Decides.{nat_tests}
use Rattle.ld_terms.specs.Tree.{Tree, Star, Box, Var, App, Lam, Pi, Const, Trees, Nil, ◌▸◌, count}
use Rattle.ld_terms.specs.Put.{put}
use Rattle.ld_terms.specs.Entry.{Entry, Body, Defined, Primitive, Env, HasBody, defined, IsScoped, AreScoped, IsScopedEntry, IsScopedEnv}
use Rattle.ld_laws.proofs.Scoping.{scoped_put, scoped_put_all}
use Rattle.ld_reduce.specs.Heads.{applied, beta_step, with_arguments, unfolding_of, delta_step, first_of, head_step, Reached, At, Runs, over, more, too_high}

-- the step of an application, from that of its function part
some_applied : (x : Tree) (o : Option Tree) (u : Tree) → applied x o ≡ Some u → (g : Tree) × (o ≡ Some g) × (App g x ≡ u)
some_applied x None u e = absurd (cc)
some_applied x (Some g) u e = (g, refl, cc)

application_scoped : (x u : Tree) (n : ℕ) (o : Option Tree) → applied x o ≡ Some u → IsScoped x n → ((g : Tree) → o ≡ Some g → IsScoped g n) → IsScoped u n
application_scoped x u n o e h k =
    let g = some_applied x o u e in
    let P : Tree → Type 0 = λ z. IsScoped z n in
    let both : IsScoped (App g.0 x) n = (k g.0 g.1, h) in
    subst P g.2 both

beta_scoped : (t u : Tree) (n : ℕ) → beta_step t ≡ Some u → IsScoped t n → IsScoped u n
beta_scoped (App (Lam a m) x) u n e h =
    let P : Tree → Type 0 = λ z. IsScoped z n in
    let is : put m (Nil ▸ x) ≡ u = cc in
    subst P is (scoped_put m (Nil ▸ x) (suc n) n (omega arith) (tt, h.1) h.0.1)
beta_scoped (App (App f y) x) u n e h = application_scoped x u n (beta_step (App f y)) e h.1 (λ g is. beta_scoped (App f y) g n is h.0)
beta_scoped (App Star x) u n e h = absurd (cc)
beta_scoped (App Box x) u n e h = absurd (cc)
beta_scoped (App (Var i) x) u n e h = absurd (cc)
beta_scoped (App (Pi a b) x) u n e h = absurd (cc)
beta_scoped (App (Const k us) x) u n e h = absurd (cc)
beta_scoped Star u n e h = absurd (cc)
beta_scoped Box u n e h = absurd (cc)
beta_scoped (Var i) u n e h = absurd (cc)
beta_scoped (Lam a m) u n e h = absurd (cc)
beta_scoped (Pi a b) u n e h = absurd (cc)
beta_scoped (Const k us) u n e h = absurd (cc)

-- an unfolding, by the entry's body
body_scoped : (c : Bool) (b : Body) (us : Trees) (u : Tree) (n : ℕ) → with_arguments c b us ≡ Some u → AreScoped us n → (c ≡ true → (t : Tree) → HasBody b t → IsScoped t (count us)) → IsScoped u n
body_scoped true (Defined t) us u n e h k =
    let P : Tree → Type 0 = λ z. IsScoped z n in
    let is : put t us ≡ u = cc in
    subst P is (scoped_put_all t us n h (k refl t defined))
body_scoped true Primitive us u n e h k = absurd (cc)
body_scoped false (Defined t) us u n e h k = absurd (cc)
body_scoped false Primitive us u n e h k = absurd (cc)

as_many : (n m : ℕ) → (n == m) ≡ true → m ≡ n
as_many n m e = grind (arith, nat_tests)

unfolding_scoped : (o : Option Entry) (us : Trees) (u : Tree) (n : ℕ) → unfolding_of o us ≡ Some u → AreScoped us n → ((x : Entry) → o ≡ Some x → IsScopedEntry x) → IsScoped u n
unfolding_scoped None us u n e h k = absurd (cc)
unfolding_scoped (Some x) us u n e h k =
    body_scoped (count us == count x.params) x.body us u n e h
    (λ same t has. let P : ℕ → Type 0 = λ m. IsScoped t m in subst P (as_many (count us) (count x.params) same) ((k x refl).body t has))

delta_scoped : (env : Env) (t u : Tree) (n : ℕ) → IsScopedEnv env → delta_step env t ≡ Some u → IsScoped t n → IsScoped u n
delta_scoped env (Const k us) u n s e h = unfolding_scoped (slice_get env k) us u n e h (λ x is. s k x is)
delta_scoped env (App f x) u n s e h = application_scoped x u n (delta_step env f) e h.1 (λ g is. delta_scoped env f g n s is h.0)
delta_scoped env Star u n s e h = absurd (cc)
delta_scoped env Box u n s e h = absurd (cc)
delta_scoped env (Var i) u n s e h = absurd (cc)
delta_scoped env (Lam a m) u n s e h = absurd (cc)
delta_scoped env (Pi a b) u n s e h = absurd (cc)

one_of : (o p : Option Tree) (u : Tree) → first_of o p ≡ Some u → (o ≡ Some u) ⊎ (p ≡ Some u)
one_of None p u e = inr e
one_of (Some x) p u e = inl e

head_scoped : (env : Env) (t u : Tree) (n : ℕ) → IsScopedEnv env → head_step env t ≡ Some u → IsScoped t n → IsScoped u n
head_scoped env t u n s e h = elim (one_of (beta_step t) (delta_step env t) u e) [ inl b ↦ beta_scoped t u n b h | inr d ↦ delta_scoped env t u n s d h ]

pub runs_scoped : (env : Env) (n : ℕ) (t : Tree) (r : Reached) (m : ℕ) → IsScopedEnv env → Runs (head_step env) t r m → (x : Tree) → r ≡ At x → IsScoped t n → IsScoped x n
runs_scoped env n t r m s (over e) x is h =
    let P : Tree → Type 0 = λ z. IsScoped z n in
    let same : t ≡ x = cc in
    subst P same h
runs_scoped env n t r m s (more {n = k} u e small run) x is h = runs_scoped env n u r k s run x is (head_scoped env t u n s e h)
runs_scoped env n t r m s (too_high u e k) x is h = absurd (cc)

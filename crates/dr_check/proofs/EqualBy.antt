-- Each rule for equalities comes to some equations of trees.
use Rattle.std.proofs.Common.{◌≡◌, ◌↔◌, ◌∙◌, ℕ, max, Bool, List, [], ◌∷◌, ◌++◌, arith, IsTrue, refl, ap, sym, subst}
use mathlib.Core.Path.{subst₂}
use Rattle.ld_terms.specs.Tree.{Tree, App, Lam, Pi, Const, Trees, Nil, ◌▸◌, count}
use Rattle.ld_terms.specs.Put.{put}
use Rattle.ld_terms.specs.Entry.{Body, Defined, Entry, EntryAt, UnfoldsTo, unfolds}
use Rattle.ld_terms.specs.Rule.{EqRule}
use Rattle.ld_terms.specs.Known.{Known, greatest, Equates, EquateAll, IsEqualBy}
use Rattle.dr_check.proofs.Deciding.{through}

pub unfolds_is : {b : Body} {t : Tree} → UnfoldsTo b t → b ≡ Defined t
unfolds_is unfolds = refl

pub is_unfolded : (b : Body) (t : Tree) → b ≡ Defined t → UnfoldsTo b t
is_unfolded b t e = subst (λ x. UnfoldsTo x t) (sym e) unfolds

module _ (known : Known) where
  refl_is : (l r : Tree) → IsEqualBy known l r EqRule.Refl → l ≡ r
  refl_is l r IsEqualBy.refl = refl

  pub refl_rule : {b : Bool} (l r : Tree) → (IsTrue b ↔ (l ≡ r)) → (IsTrue b ↔ IsEqualBy known l r EqRule.Refl)
  refl_rule l r h = through h (λ e. subst (λ x. IsEqualBy known l x EqRule.Refl) e IsEqualBy.refl) (refl_is l r)

  sym_is : (l r : Tree) (e : ℕ) → IsEqualBy known l r (EqRule.Sym e) → Equates known e r l
  sym_is l r e (IsEqualBy.sym h) = h

  pub sym_rule : {b : Bool} (l r : Tree) (e : ℕ) → (IsTrue b ↔ Equates known e r l) → (IsTrue b ↔ IsEqualBy known l r (EqRule.Sym e))
  sym_rule l r e h = through h (λ s. IsEqualBy.sym s) (sym_is l r e)

  trans_is : (l q r : Tree) (e f : ℕ) → Equates known e l q → IsEqualBy known l r (EqRule.Trans e f) → Equates known f q r
  trans_is l q r e f first (IsEqualBy.trans p h k) = (k.0 ∙ sym h.1 ∙ first.1, k.1)

  pub trans_rule : {b : Bool} (l q r : Tree) (e f : ℕ) → Equates known e l q → (IsTrue b ↔ Equates known f q r) → (IsTrue b ↔ IsEqualBy known l r (EqRule.Trans e f))
  trans_rule l q r e f first h = through h (λ s. IsEqualBy.trans q first s) (trans_is l q r e f first)

  beta_is : (a m n r : Tree) → IsEqualBy known (App (Lam a m) n) r EqRule.Beta → r ≡ put m (Nil ▸ n)
  beta_is a m n r IsEqualBy.beta = refl

  pub beta_rule : {b : Bool} (l r f a m n : Tree) → App f n ≡ l → Lam a m ≡ f → (IsTrue b ↔ (r ≡ put m (Nil ▸ n))) → (IsTrue b ↔ IsEqualBy known l r EqRule.Beta)
  beta_rule l r f a m n e g h =
      let redex : App (Lam a m) n ≡ l = ap (λ x. App x n) g ∙ e in
      let P : Tree → Type 0 = λ x. IsEqualBy known x r EqRule.Beta in
      through h
      (λ is. subst P redex (subst (λ x. IsEqualBy known (App (Lam a m) n) x EqRule.Beta) (sym is) IsEqualBy.beta))
      (λ s. beta_is a m n r (subst P (sym redex) s))

  -- an instance of an entry with this body is equal by unfolding to the body with the arguments put in alone
  pub record IsUnfolded (us : Trees) (r : Tree) (e : Entry) (body : Tree) : Type 0 where
    pub as_many : count us ≡ count e.params
    pub is : r ≡ put body us

  pub delta_is : (k : ℕ) (us : Trees) (r : Tree) (e : Entry) (body : Tree) → EntryAt known.env k e → e.body ≡ Defined body → IsEqualBy known (Const k us) r EqRule.Delta → IsUnfolded us r e body
  delta_is k us r e body at has (IsEqualBy.delta {e = d} {body = t} at' w c) =
      let same : d ≡ e = cc (at, at') in
      let body_is : Defined t ≡ Defined body = sym (unfolds_is w) ∙ ap (λ x. x.body) same ∙ has in
      let one : t ≡ body = cc in
      record { as_many = c ∙ ap (λ x. count x.params) same; is = ap (λ x. put x us) one }

  pub delta_rule : {b : Bool} (k : ℕ) (us : Trees) (r : Tree) (e : Entry) (body : Tree) → EntryAt known.env k e → e.body ≡ Defined body → count us ≡ count e.params → (IsTrue b ↔ (r ≡ put body us)) → (IsTrue b ↔ IsEqualBy known (Const k us) r EqRule.Delta)
  delta_rule k us r e body at has c h =
      through h
      (λ is. subst (λ x. IsEqualBy known (Const k us) x EqRule.Delta) (sym is) (IsEqualBy.delta at (is_unfolded e.body body has) c))
      (λ s. (delta_is k us r e body at has s).is)

  app_is : (l r f u g v : Tree) (e e' : ℕ) → App f u ≡ l → App g v ≡ r → IsEqualBy known l r (EqRule.App e e') → Equates known e' u v
  app_is l r f u g v e e' p q (IsEqualBy.app {u = x} {v = y} h k) = let a : x ≡ u = cc in let b : y ≡ v = cc in (k.0 ∙ a, k.1 ∙ b)

  pub app_rule : {t : Bool} (l r f u g v : Tree) (e e' : ℕ) → App f u ≡ l → App g v ≡ r → Equates known e f g → (IsTrue t ↔ Equates known e' u v) → (IsTrue t ↔ IsEqualBy known l r (EqRule.App e e'))
  app_rule l r f u g v e e' p q first h =
      through h (λ s. subst₂ (λ x y. IsEqualBy known x y (EqRule.App e e')) p q (IsEqualBy.app first s)) (app_is l r f u g v e e' p q)

  lam_is : (l r a m b n : Tree) (e e' : ℕ) → Lam a m ≡ l → Lam b n ≡ r → IsEqualBy known l r (EqRule.Lam e e') → Equates known e' m n
  lam_is l r a m b n e e' p q (IsEqualBy.lam {m = x} {n = y} h k) = let i : x ≡ m = cc in let j : y ≡ n = cc in (k.0 ∙ i, k.1 ∙ j)

  pub lam_rule : {t : Bool} (l r a m b n : Tree) (e e' : ℕ) → Lam a m ≡ l → Lam b n ≡ r → Equates known e a b → (IsTrue t ↔ Equates known e' m n) → (IsTrue t ↔ IsEqualBy known l r (EqRule.Lam e e'))
  lam_rule l r a m b n e e' p q first h =
      through h (λ s. subst₂ (λ x y. IsEqualBy known x y (EqRule.Lam e e')) p q (IsEqualBy.lam first s)) (lam_is l r a m b n e e' p q)

  pi_is : (l r a c b d : Tree) (e e' : ℕ) → Pi a c ≡ l → Pi b d ≡ r → IsEqualBy known l r (EqRule.Pi e e') → Equates known e' c d
  pi_is l r a c b d e e' p q (IsEqualBy.pi {c = x} {d = y} h k) = let i : x ≡ c = cc in let j : y ≡ d = cc in (k.0 ∙ i, k.1 ∙ j)

  pub pi_rule : {t : Bool} (l r a c b d : Tree) (e e' : ℕ) → Pi a c ≡ l → Pi b d ≡ r → Equates known e a b → (IsTrue t ↔ Equates known e' c d) → (IsTrue t ↔ IsEqualBy known l r (EqRule.Pi e e'))
  pi_rule l r a c b d e e' p q first h =
      through h (λ s. subst₂ (λ x y. IsEqualBy known x y (EqRule.Pi e e')) p q (IsEqualBy.pi first s)) (pi_is l r a c b d e e' p q)

  const_is : (l r : Tree) (k j : ℕ) (us vs : Trees) (es : List ℕ) → Const k us ≡ l → Const j vs ≡ r → IsEqualBy known l r (EqRule.Const es) → EquateAll known es us vs
  const_is l r k j us vs es p q (IsEqualBy.const {us = x} {vs = y} h) = let a : x ≡ us = cc in let b : y ≡ vs = cc in (h.0 ∙ a, h.1 ∙ b)

  pub const_rule : {t : Bool} (l r : Tree) (k j : ℕ) (us vs : Trees) (es : List ℕ) → Const k us ≡ l → Const j vs ≡ r → k ≡ j → (IsTrue t ↔ EquateAll known es us vs) → (IsTrue t ↔ IsEqualBy known l r (EqRule.Const es))
  const_rule l r k j us vs es p q one h =
      through h (λ s. subst₂ (λ x y. IsEqualBy known x y (EqRule.Const es)) p (ap (λ x. Const x vs) one ∙ q) (IsEqualBy.const s)) (const_is l r k j us vs es p q)

pub greatest_last : (ns : List ℕ) (n : ℕ) → greatest (ns ++ n ∷ []) ≡ max (greatest ns) n
greatest_last [] n = omega arith
greatest_last (m ∷ ns) n = omega (arith, greatest_last ns n)

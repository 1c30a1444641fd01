-- Each rule for nodes comes to some equations of trees and some earlier judgements.
use Rattle.std.proofs.Common.{◌≡◌, ◌↔◌, ◌∙◌, ◌≤◌, ◌<◌, ℕ, suc, List, Bool, IsTrue, refl, ap, sym, subst}
use mathlib.Core.Path.{subst₂}
use Rattle.ld_terms.specs.Tree.{Tree, Star, Box, Var, App, Lam, Pi, Const, Trees, Nil, ◌▸◌}
use Rattle.ld_terms.specs.Put.{lift, put}
use Rattle.ld_terms.specs.Entry.{Body, Defined, Primitive, Entry, EntryAt, HasBody, defined}
use Rattle.ld_terms.specs.Derivable.{IsSort}
use Rattle.ld_terms.specs.Rule.{Rule}
use Rattle.ld_terms.specs.Known.{Known, Judges, JudgeArguments, Equates, FollowsBy, judgement_at, bound_at}
use Rattle.dr_check.specs.Entered.{HasSortAt}
use Rattle.dr_check.proofs.Deciding.{through}

pub has_body : (b : Body) (t : Tree) → b ≡ Defined t → HasBody b t
has_body b t e = subst (λ x. HasBody x t) (sym e) defined

module _ (known : Known) where
  pub moved : (m : ℕ) (G G' : Trees) (t t' u u' : Tree) (rule : Rule) → G ≡ G' → t ≡ t' → u ≡ u' → FollowsBy known m G t u rule → FollowsBy known m G' t' u' rule
  moved m G G' t t' u u' rule e f g d =
      subst (λ x. FollowsBy known m x t' u' rule) e (subst₂ (λ x y. FollowsBy known m G x y rule) f g d)

  pub with_sort : (n m : ℕ) (ctx : Trees) (a s : Tree) → IsSort s → Judges known n m ctx a s → HasSortAt known n m ctx a
  with_sort n m ctx a s w j =
      let e : (judgement_at known n).type ≡ s = ap (λ x. x.type) j in
      record { sort = subst IsSort (sym e) w; judged = subst (Judges known n m ctx a) (sym e) j }

  pub record SortParts (m : ℕ) (G : Trees) (t u : Tree) : Type 0 where
    pub entries : m ≡ 0
    pub context : G ≡ Nil
    pub term : t ≡ Star
    pub type : u ≡ Box

  pub sort_is : (m : ℕ) (G : Trees) (t u : Tree) → FollowsBy known m G t u Rule.Sort → SortParts m G t u
  sort_is m G t u FollowsBy.sort = record { entries = refl; context = refl; term = refl; type = refl }

  pub sort_rule : {t : Bool} (m : ℕ) (G : Trees) (x u : Tree) → m ≡ 0 → Star ≡ x → Box ≡ u → (IsTrue t ↔ (G ≡ Nil)) → (IsTrue t ↔ FollowsBy known m G x u Rule.Sort)
  sort_rule m G x u e p q h =
      through h
      (λ g. subst (λ k. FollowsBy known k G x u Rule.Sort) (sym e) (moved 0 Nil G Star x Box u Rule.Sort (sym g) p q FollowsBy.sort))
      (λ d. (sort_is m G x u d).context)

  var_is : (m n : ℕ) (G outer : Trees) (a t u : Tree) → outer ▸ a ≡ G → FollowsBy known m G t u (Rule.Var n) → HasSortAt known n m outer a
  var_is m n G outer a t u e (FollowsBy.var {ctx = ctx} {a = b} {s = s} w j) =
      let p : ctx ≡ outer = cc in
      let q : b ≡ a = cc in
      subst₂ (λ c x. HasSortAt known n m c x) p q (with_sort n m ctx b s w j)

  pub var_rule : {b : Bool} (m n : ℕ) (G outer : Trees) (a t u : Tree) → outer ▸ a ≡ G → t ≡ Var 0 → u ≡ lift a 1 0 → (IsTrue b ↔ HasSortAt known n m outer a) → (IsTrue b ↔ FollowsBy known m G t u (Rule.Var n))
  var_rule m n G outer a t u e f g h =
      through h
      (λ s. moved m (outer ▸ a) G (Var 0) t (lift a 1 0) u (Rule.Var n) e (sym f) (sym g) (FollowsBy.var s.sort s.judged))
      (var_is m n G outer a t u e)

  weak_is : (m n o : ℕ) (G outer : Trees) (a b t u : Tree) → Judges known n m outer a b → FollowsBy known m G t u (Rule.Weak n o) → u ≡ lift b 1 0
  weak_is m n o G outer a b t u j (FollowsBy.weak {b = b'} w j' k) =
      let same : b' ≡ b = ap (λ x. x.type) (sym j' ∙ j) in
      ap (λ x. lift x 1 0) same

  pub weak_rule : {x : Bool} (m n o : ℕ) (G outer : Trees) (a b c t u : Tree) → outer ▸ c ≡ G → Judges known n m outer a b → HasSortAt known o m outer c → t ≡ lift a 1 0 → (IsTrue x ↔ (u ≡ lift b 1 0)) → (IsTrue x ↔ FollowsBy known m G t u (Rule.Weak n o))
  weak_rule m n o G outer a b c t u e j s f h =
      through h
      (λ g. moved m (outer ▸ c) G (lift a 1 0) t (lift b 1 0) u (Rule.Weak n o) e (sym f) (sym g) (FollowsBy.weak s.sort j s.judged))
      (weak_is m n o G outer a b t u j)

  form_is : (m n o : ℕ) (G : Trees) (a b t u : Tree) → Pi a b ≡ t → FollowsBy known m G t u (Rule.Form n o) → Judges known o m (G ▸ a) b u
  form_is m n o G a b t u e (FollowsBy.form {a = a'} {b = b'} w v j k) =
      let p : a' ≡ a = cc in
      let q : b' ≡ b = cc in
      subst₂ (λ x y. Judges known o m (G ▸ x) y u) p q k

  pub form_rule : {x : Bool} (m n o : ℕ) (G : Trees) (a b t u : Tree) → Pi a b ≡ t → IsSort u → HasSortAt known n m G a → (IsTrue x ↔ Judges known o m (G ▸ a) b u) → (IsTrue x ↔ FollowsBy known m G t u (Rule.Form n o))
  form_rule m n o G a b t u e w s h =
      through h
      (λ k. subst (λ y. FollowsBy known m G y u (Rule.Form n o)) e (FollowsBy.form s.sort w s.judged k))
      (form_is m n o G a b t u e)

  -- what an application's nodes say, where the first gives its function this product
  pub record ApplParts (o m : ℕ) (G : Trees) (a b v u : Tree) : Type 0 where
    pub argument : Judges known o m G v a
    pub type : u ≡ put b (Nil ▸ v)

  pub appl_is : (m n o : ℕ) (G : Trees) (a b f v t u : Tree) → App f v ≡ t → Judges known n m G f (Pi a b) → FollowsBy known m G t u (Rule.Appl n o) → ApplParts o m G a b v u
  appl_is m n o G a b f v t u e j (FollowsBy.appl {a = a'} {b = b'} {f = f'} {u = v'} j' k) =
      let product : Pi a' b' ≡ Pi a b = ap (λ x. x.type) (sym j' ∙ j) in
      let p : a' ≡ a = cc in
      let q : b' ≡ b = cc in
      let r : v' ≡ v = cc in
      record { argument = subst₂ (λ x y. Judges known o m G x y) r p k; type = ap (λ x. put x (Nil ▸ v')) q ∙ ap (λ x. put b (Nil ▸ x)) r }

  pub appl_first : (m n o : ℕ) (G : Trees) (a b f v t u : Tree) → App f v ≡ t → (judgement_at known n).type ≡ Pi a b → FollowsBy known m G t u (Rule.Appl n o) → Judges known n m G f (Pi a b)
  appl_first m n o G a b f v t u e is (FollowsBy.appl {a = a'} {b = b'} {f = f'} {u = v'} j k) =
      let p : f' ≡ f = cc in
      let q : Pi a' b' ≡ Pi a b = ap (λ x. x.type) (sym j) ∙ is in
      subst₂ (λ x y. Judges known n m G x y) p q j

  pub appl_rule : {x : Bool} (m n o : ℕ) (G : Trees) (a b f v t u : Tree) → App f v ≡ t → Judges known n m G f (Pi a b) → Judges known o m G v a → (IsTrue x ↔ (u ≡ put b (Nil ▸ v))) → (IsTrue x ↔ FollowsBy known m G t u (Rule.Appl n o))
  appl_rule m n o G a b f v t u e j k h =
      through h
      (λ g. subst₂ (λ x y. FollowsBy known m G x y (Rule.Appl n o)) e (sym g) (FollowsBy.appl j k))
      (λ d. (appl_is m n o G a b f v t u e j d).type)

  abst_is : (m n o : ℕ) (G : Trees) (t u : Tree) → FollowsBy known m G t u (Rule.Abst n o) → HasSortAt known o m G u
  abst_is m n o G t u (FollowsBy.abst {a = a} {b = b} {s = s} w j k) = with_sort o m G (Pi a b) s w k

  pub abst_rule : {x : Bool} (m n o : ℕ) (G : Trees) (a c p b t u : Tree) → Lam a p ≡ t → Pi c b ≡ u → a ≡ c → Judges known n m (G ▸ a) p b → (IsTrue x ↔ HasSortAt known o m G u) → (IsTrue x ↔ FollowsBy known m G t u (Rule.Abst n o))
  abst_rule m n o G a c p b t u e f g j h =
      let product : Pi a b ≡ u = ap (λ x. Pi x b) g ∙ f in
      through h
      (λ s. subst₂ (λ x y. FollowsBy known m G x y (Rule.Abst n o)) e product
      (FollowsBy.abst s.sort j (subst (λ x. Judges known o m G x (judgement_at known o).type) (sym product) s.judged)))
      (abst_is m n o G t u)

  conv_is : (m n o e : ℕ) (G : Trees) (t u : Tree) → FollowsBy known m G t u (Rule.Conv n o e) → bound_at known e ≤ m
  conv_is m n o e G t u (FollowsBy.conv w j k q low) = low

  pub conv_rule : {x : Bool} (m n o e : ℕ) (G : Trees) (b t u : Tree) → Judges known n m G t b → HasSortAt known o m G u → Equates known e b u → (IsTrue x ↔ (bound_at known e ≤ m)) → (IsTrue x ↔ FollowsBy known m G t u (Rule.Conv n o e))
  conv_rule m n o e G b t u j s q h =
      through h (λ low. FollowsBy.conv s.sort j s.judged q low) (conv_is m n o e G t u)

  def_is : (m k n : ℕ) (G : Trees) (t u : Tree) → m ≡ suc k → FollowsBy known m G t u (Rule.Def n) → Judges known n k G t u
  def_is m k n G t u e (FollowsBy.def {m = l} j at w) = let same : l ≡ k = cc in subst (λ x. Judges known n x G t u) same j

  pub def_rule : {x : Bool} (m k n : ℕ) (G : Trees) (t u body : Tree) (e : Entry) → m ≡ suc k → EntryAt known.env k e → e.body ≡ Defined body → (IsTrue x ↔ Judges known n k G t u) → (IsTrue x ↔ FollowsBy known m G t u (Rule.Def n))
  def_rule m k n G t u body e is at w h =
      through h
      (λ j. subst (λ x. FollowsBy known x G t u (Rule.Def n)) (sym is) (FollowsBy.def j at (has_body e.body body w)))
      (def_is m k n G t u is)

  def_prim_is : (m k n : ℕ) (G : Trees) (t u : Tree) → m ≡ suc k → FollowsBy known m G t u (Rule.DefPrim n) → Judges known n k G t u
  def_prim_is m k n G t u e (FollowsBy.def_prim {m = l} j at w) = let same : l ≡ k = cc in subst (λ x. Judges known n x G t u) same j

  pub def_prim_rule : {x : Bool} (m k n : ℕ) (G : Trees) (t u : Tree) (e : Entry) → m ≡ suc k → EntryAt known.env k e → e.body ≡ Primitive → (IsTrue x ↔ Judges known n k G t u) → (IsTrue x ↔ FollowsBy known m G t u (Rule.DefPrim n))
  def_prim_rule m k n G t u e is at w h =
      through h
      (λ j. subst (λ x. FollowsBy known x G t u (Rule.DefPrim n)) (sym is) (FollowsBy.def_prim j at w))
      (def_prim_is m k n G t u is)

  entry_once : (k l : ℕ) (d e : Entry) → k ≡ l → EntryAt known.env k d → EntryAt known.env l e → d ≡ e
  entry_once k l d e is p q = let r : EntryAt known.env l d = subst (λ x. EntryAt known.env x d) is p in cc (r, q)

  -- what an instance of an entry comes to, whatever the entry's body
  abbrev pub InstanceParts : (m n k : ℕ) (ns : List ℕ) (G us : Trees) (u : Tree) (params : Trees) (type : Tree) → Type 0
  InstanceParts m n k ns G us u params type = (k < m) × Judges known n m G Star Box × JudgeArguments known ns m G params us × (u ≡ put type us)

  instance_is : (m n k l : ℕ) (ns : List ℕ) (G us vs : Trees) (d e : Entry) → Const l vs ≡ Const k us → EntryAt known.env k e → EntryAt known.env l d →
      l < m → Judges known n m G Star Box → JudgeArguments known ns m G d.params vs → InstanceParts m n k ns G us (put d.type vs) e.params e.type
  instance_is m n k l ns G us vs d e is at at' low j args =
      let p : l ≡ k = cc in
      let q : vs ≡ us = cc in
      let r : d ≡ e = entry_once l k d e p at' at in
      (subst (λ x. x < m) p low, j, subst₂ (λ x y. JudgeArguments known ns m G x y) (ap (λ x. x.params) r) q args, ap (λ x. put x.type vs) r ∙ ap (put e.type) q)

  inst_is : (m n k : ℕ) (ns : List ℕ) (G us : Trees) (t u : Tree) (e : Entry) → Const k us ≡ t → EntryAt known.env k e → FollowsBy known m G t u (Rule.Inst n ns) → InstanceParts m n k ns G us u e.params e.type
  inst_is m n k ns G us t u e is at (FollowsBy.inst {k = l} {us = vs} {e = d} j low at' w args) = instance_is m n k l ns G us vs d e (sym is) at at' low j args

  pub inst_rule : {x : Bool} (m n k : ℕ) (ns : List ℕ) (G us : Trees) (t u body : Tree) (e : Entry) → Const k us ≡ t → EntryAt known.env k e → e.body ≡ Defined body →
      (IsTrue x ↔ InstanceParts m n k ns G us u e.params e.type) → (IsTrue x ↔ FollowsBy known m G t u (Rule.Inst n ns))
  inst_rule m n k ns G us t u body e is at w h =
      through h
      (λ g. subst₂ (λ x y. FollowsBy known m G x y (Rule.Inst n ns)) is (sym g.3) (FollowsBy.inst g.1 g.0 at (has_body e.body body w) g.2))
      (inst_is m n k ns G us t u e is at)

  inst_prim_is : (m n k : ℕ) (ns : List ℕ) (G us : Trees) (t u : Tree) (e : Entry) → Const k us ≡ t → EntryAt known.env k e → FollowsBy known m G t u (Rule.InstPrim n ns) → InstanceParts m n k ns G us u e.params e.type
  inst_prim_is m n k ns G us t u e is at (FollowsBy.inst_prim {k = l} {us = vs} {e = d} j low at' w args) = instance_is m n k l ns G us vs d e (sym is) at at' low j args

  pub inst_prim_rule : {x : Bool} (m n k : ℕ) (ns : List ℕ) (G us : Trees) (t u : Tree) (e : Entry) → Const k us ≡ t → EntryAt known.env k e → e.body ≡ Primitive →
      (IsTrue x ↔ InstanceParts m n k ns G us u e.params e.type) → (IsTrue x ↔ FollowsBy known m G t u (Rule.InstPrim n ns))
  inst_prim_rule m n k ns G us t u e is at w h =
      through h
      (λ g. subst₂ (λ x y. FollowsBy known m G x y (Rule.InstPrim n ns)) is (sym g.3) (FollowsBy.inst_prim g.1 g.0 at w g.2))
      (inst_prim_is m n k ns G us t u e is at)

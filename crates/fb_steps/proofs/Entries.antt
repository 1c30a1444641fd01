-- The items of an entry: the flags of its parameters, and the items of its body, or of its instance with its own flags.
use Rattle.std.proofs.Common.{◌≡◌, ℕ, List, [], ◌∷◌, ap, refl, sym, subst}
use Rattle.ld_terms.specs.Tree.{Tree, Trees, Nil, ◌▸◌, count}
use Rattle.ld_terms.specs.Entry.{Body, Defined, Primitive, Entry, EntryAt, Env, UnfoldsTo, unfolds}
use Rattle.ld_terms.specs.Derivable.{Derivable, IsLegal, IsLegalContext}
use Rattle.ld_laws.specs.Typing.{HasSort}
use Rattle.ld_laws.proofs.Scoping.{scopes}
use Rattle.ld_laws.proofs.LegalContexts.{last_of, legal_of}
use Rattle.ld_laws.proofs.Entries.{body_typed, made_over, take_extends}
use Rattle.ld_laws.proofs.Preservation.{instance_by, params_legal}
use Rattle.ld_infer.specs.declared.failure.RuleName.TheVariants.{Weak}
use Rattle.ld_infer.specs.Reading.{SortOf}
use Rattle.ld_infer.specs.Refusals.{IsSortOf}
use Rattle.fb_steps.specs.Work.{flag, reads, ◌>>◌}
use Rattle.fb_steps.specs.Steps.{entry_steps, flags_of, printed_term, steps_of}
use Rattle.fb_steps.specs.Places.{OpenFlag, Place, context_of, own_instance}
use Rattle.fb_steps.proofs.OwnFlags.{own_typed, put_own}
use Rattle.fb_steps.proofs.Later.{later, legal_later}
use Rattle.fb_steps.proofs.Invariant.{Differ, IsPlace, StandsFor}
use Rattle.fb_steps.proofs.Growing.{outside}
use Rattle.fb_steps.proofs.Working.{Works, bind_works, done_works, reads_works, under_flags, works_more}
use Rattle.fb_steps.proofs.Lines.{flag_works}
use Rattle.fb_steps.proofs.Walk.{sort_means, steps_work}

-- the term that an entry is printed as has the entry's type
printed_by : {Δ : Env} (e : Entry) (k : ℕ) (b : Body) → ((t : Tree) → UnfoldsTo b t → Derivable Δ e.params t e.type) →
    Derivable Δ e.params (own_instance k (count e.params)) e.type → Derivable Δ e.params (printed_term k e.params b) e.type
printed_by e k (Defined t) h d = h t unfolds
printed_by e k Primitive h d = d

pub printed_typed : {Δ : Env} {e : Entry} (k : ℕ) → IsLegal Δ → EntryAt Δ k e → Derivable Δ e.params (printed_term k e.params e.body) e.type
printed_typed {Δ} {e} k l at =
    let made = made_over l k e at in
    let legal = legal_later (take_extends Δ k) l e.params (params_legal made) in
    let own = subst (Derivable Δ e.params _) (put_own e.type (count e.params) ((scopes l).of_env k e at).type) (instance_by legal made at (own_typed e.params legal)) in
    printed_by e k e.body (λ t un. later (take_extends Δ k) legal (body_typed made un)) own

-- without any flag
outside_all : {Δ : Env} {name : ℕ → List ℕ} (fs : List OpenFlag) (k : ℕ) (p : Place) → IsPlace Δ name fs k p → IsPlace Δ name [] k p
outside_all [] k p s = s
outside_all (f ∷ fs) k p s = outside_all fs k p (outside s)

module _ (Δ : Env) (name : ℕ → List ℕ) where
  -- flags that are open now, for these types
  pub record Opened (ps : Trees) (q : Place) (k : ℕ) : Type 0 where
    pub flags : List OpenFlag
    pub types_are : context_of flags ≡ ps
    pub is : IsPlace Δ name flags k q

  last_flag : {ps : Trees} {a : Tree} {fs : List OpenFlag} {p : Place} {j : ℕ} → IsLegalContext Δ (ps ▸ a) → context_of fs ≡ ps → IsPlace Δ name fs j p →
      Works Δ name [] p j (reads (SortOf Δ ps 1 (Weak, 2) a) >> flag (count ps) a) (λ _ q k. Opened (ps ▸ a) q k)
  last_flag {ps} {a} {fs} {p} {j} l e s =
      works_more Δ name {j = j} (reads (SortOf Δ ps 1 (Weak, 2) a) >> flag (count ps) a) (λ _ q k. ((n : ℕ) × IsPlace Δ name (record { number = n; type = a } ∷ fs) k q) × IsPlace Δ name fs k q)
      (λ x q k g. record { flags = record { number = g.0.0; type = a } ∷ fs; types_are = ap (λ c. c ▸ a) e; is = g.0.1 })
      (under_flags Δ name {j = j} (reads (SortOf Δ ps 1 (Weak, 2) a) >> flag (count ps) a) (λ _ q k. (n : ℕ) × IsPlace Δ name (record { number = n; type = a } ∷ fs) k q) (outside_all fs)
      (bind_works Δ name {j = j} {w = reads (SortOf Δ ps 1 (Weak, 2) a)} (λ r _ _. IsSortOf Δ ps a r) (reads_works Δ name (IsSortOf Δ ps a) s (sort_means (Weak, 2) (last_of l)))
      (λ r q k is grown sorted. subst (λ c. Works Δ name fs q k (flag (count c) a) (λ _ o i. (n : ℕ) × IsPlace Δ name (record { number = n; type = a } ∷ fs) i o)) e
      (flag_works Δ name a is (subst (λ c. HasSort Δ c a) (sym e) (last_of l))))))

  flags_work : (ps : Trees) (p : Place) (j : ℕ) → IsLegalContext Δ ps → IsPlace Δ name [] j p → Works Δ name [] p j (flags_of Δ ps) (λ _ q k. Opened ps q k)
  flags_work Nil p j l s = done_works Δ name tt s (record { flags = []; types_are = refl; is = s })
  flags_work (ps ▸ a) p j l s =
      bind_works Δ name (λ _ q k. Opened ps q k) (flags_work ps p j (legal_of (last_of l).typed) s) (λ x q k is grown o. last_flag l o.types_are o.is)

  -- a line stands for the term under flags for the parameters
  pub record Stands (ps : Trees) (t type : Tree) (number : ℕ) (q : Place) : Type 0 where
    pub flags : List OpenFlag
    pub types_are : context_of flags ≡ ps
    pub stands : StandsFor Δ flags q number t type

  body_work : Differ name → {ps : Trees} {t type : Tree} {q : Place} {k : ℕ} → Derivable Δ ps t type → (o : Opened ps q k) →
      Works Δ name [] q k (steps_of Δ ps t type) (λ number r _. Stands ps t type number r)
  body_work differ {ps} {t} {type} {q} {k} d o =
      works_more Δ name {j = k} (steps_of Δ ps t type) (λ number r i. StandsFor Δ o.flags r number t type × IsPlace Δ name o.flags i r) (λ number r i g. record { flags = o.flags; types_are = o.types_are; stands = g.0 })
      (under_flags Δ name {j = k} (steps_of Δ ps t type) (λ number r _. StandsFor Δ o.flags r number t type) (outside_all o.flags)
      (subst (λ c. Works Δ name o.flags q k (steps_of Δ c t type) (λ number r _. StandsFor Δ o.flags r number t type)) o.types_are
      (steps_work Δ name differ t type o.flags q k o.is (subst (λ c. Derivable Δ c t type) (sym o.types_are) d))))

  pub entry_work : Differ name → (k : ℕ) (e : Entry) (p : Place) (j : ℕ) → IsLegal Δ → EntryAt Δ k e → IsPlace Δ name [] j p →
      Works Δ name [] p j (entry_steps Δ k e) (λ number q _. Stands e.params (printed_term k e.params e.body) e.type number q)
  entry_work differ k e p j l at s =
      let d = printed_typed k l at in
      bind_works Δ name (λ _ q i. Opened e.params q i) (flags_work e.params p j (legal_of d) s) (λ x q i is grown o. body_work differ d o)

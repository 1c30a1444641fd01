-- The types of an entry's parameters are those of a context in which something was judged. So they name only entries that
-- are there, and each is over the parameters before it.
use Rattle.std.proofs.Common.{◌≡◌, ◌<◌, ◌∙◌, ℕ, zero, suc, Bool, true, false, List, [], ◌∷◌, length, refl, ap, sym, subst, arith, inl, inr}
use Rattle.std.specs.Prelude.{⊤}
use Rattle.std.proofs.lemmas.Bool.{cases_lt}
use Rattle.std.proofs.lemmas.List.{get_or_at, length_push}
use Rattle.ld_terms.specs.Tree.{Tree, Trees, Nil, ◌▸◌, count}
use Rattle.ld_terms.specs.Put.{put}
use Rattle.ld_terms.specs.Item.{Item}
use Rattle.ld_terms.specs.Bank.{tree_at}
use Rattle.ld_terms.specs.Entry.{IsScoped, IsTelescope}
use Rattle.ld_terms.specs.Entry as entry
use Rattle.ld_terms.specs.Known.{Known, nothing, Judgement, no_judgement, context_at, judgement_at, primitive_entry}
use Rattle.ld_terms.specs.Named.{IsNamed, AreNamed, IsWellFormed}
use Rattle.ld_laws.proofs.Scoping.{scopes, scoped_put_all}
use Rattle.ld_record.specs.declared.record.Kept.{Kept}
use Rattle.ld_record.specs.declared.record.Kept.TheVariants.{Context, Equal, Node, Entry, Flag}
use Rattle.ld_record.specs.Follows.{entry_at}
use Rattle.ld_record.specs.Kept.{IsJudged, judgement_of, entry_by, with_kept, known_after, known_of, Fits, AreSound, IsSound}
use Rattle.ld_record.proofs.Lists.{with_one_more}
use Rattle.ld_record.proofs.Growing.{Grows, grows_kept}
use Rattle.ld_record.proofs.Named.{named_put, kept_terms_are_named}
use Rattle.ld_record.proofs.Derived.{kept_nodes_are_derivable}
use Rattle.ld_infer.specs.Standing.{Standing, env, without}
use Rattle.ld_infer.specs.Infers.{AreReadable}

-- each tree is the term of a judgement
abbrev pub AreTerms : Known → Trees → Type 0
AreTerms known Nil = ⊤
AreTerms known (ctx ▸ a) = AreTerms known ctx × IsJudged known a

judged_later : (old new : Known) (t : Tree) → Grows old new → IsJudged old t → IsJudged new t
judged_later old new t g h = record { number = h.number; live = omega (arith, g.nodes, h.live); term = ap (λ (j : Judgement). j.term) (g.node h.number h.live) ∙ h.term }

terms_later : (old new : Known) (ctx : Trees) → Grows old new → AreTerms old ctx → AreTerms new ctx
terms_later old new Nil g h = tt
terms_later old new (ctx ▸ a) g h = (terms_later old new ctx g h.0, judged_later old new a g h.1)

-- the parameters of an entry are the context of a judgement
pub record HasMaker (known : Known) (k : ℕ) : Type 0 where
  pub number : ℕ
  pub live : number < length known.nodes
  pub params : (entry_at known.env k).params ≡ (judgement_at known number).context

maker_later : (old new : Known) (k : ℕ) → Grows old new → k < length old.env → HasMaker old k → HasMaker new k
maker_later old new k g there h = record {
  number = h.number;
  live = omega (arith, g.nodes, h.live);
  params = ap (λ (e : entry.Entry). e.params) (g.entry k there) ∙ h.params ∙ sym (ap (λ (j : Judgement). j.context) (g.node h.number h.live));
}

-- contexts are of terms of judgements, and parameters are contexts
pub record AreOfTerms (known : Known) : Type 0 where
  pub contexts : (c : ℕ) → AreTerms known (context_at known c)
  pub nodes : (n : ℕ) → AreTerms known (judgement_at known n).context
  pub entries : (k : ℕ) → k < length known.env → HasMaker known k

params_by : (prim : Bool) (name : List ℕ) (j : Judgement) → (entry_by prim name j).params ≡ j.context
params_by true name j = refl
params_by false name j = refl

entries_later : (old new : Known) → Grows old new → AreOfTerms old → length new.env ≡ length old.env → (k : ℕ) → k < length new.env → HasMaker new k
entries_later old new g h same k there = let l : k < length old.env = omega (arith, same, there) in maker_later old new k g l (h.entries k l)

-- with one record more
kept_of_terms : (items : List Item) (known : Known) (k : Kept) → AreOfTerms known → Fits items known k → AreOfTerms (with_kept items known k)
kept_of_terms items known (Context c t) h fits =
    let new = with_kept items known (Context c t) in
    let g = grows_kept items known (Context c t) in
    record {
      contexts = with_one_more (AreTerms new) Nil (context_at known c.0 ▸ tree_at items t) known.contexts tt (λ i. terms_later known new (context_at known i) g (h.contexts i))
          (terms_later known new (context_at known c.0) g (h.contexts c.0), judged_later known new (tree_at items t) g fits.judged);
      nodes = λ n. terms_later known new (judgement_at known n).context g (h.nodes n);
      entries = entries_later known new g h refl;
    }
kept_of_terms items known (Equal left right step) h fits =
    let new = with_kept items known (Equal left right step) in
    let g = grows_kept items known (Equal left right step) in
    record {
      contexts = λ c. terms_later known new (context_at known c) g (h.contexts c);
      nodes = λ n. terms_later known new (judgement_at known n).context g (h.nodes n);
      entries = entries_later known new g h refl;
    }
kept_of_terms items known (Node judge step) h fits =
    let new = with_kept items known (Node judge step) in
    let g = grows_kept items known (Node judge step) in
    record {
      contexts = λ c. terms_later known new (context_at known c) g (h.contexts c);
      nodes = with_one_more (λ (j : Judgement). AreTerms new j.context) no_judgement (judgement_of items known judge) known.nodes tt
          (λ n. terms_later known new (judgement_at known n).context g (h.nodes n)) (terms_later known new (context_at known judge.ctx.0) g (h.contexts judge.ctx.0));
      entries = entries_later known new g h refl;
    }
kept_of_terms items known (Entry name j prim) h fits =
    let e = entry_by prim name (judgement_at known j.0) in
    let new = with_kept items known (Entry name j prim) in
    let g = grows_kept items known (Entry name j prim) in
    record {
      contexts = λ c. terms_later known new (context_at known c) g (h.contexts c);
      nodes = λ n. terms_later known new (judgement_at known n).context g (h.nodes n);
      entries = λ k there. elim (cases_lt k (length known.env)) [
        | inl below ↦ maker_later known new k g below (h.entries k below)
        | inr above ↦ record {
          number = j.0;
          live = fits.live;
          params = ap (λ (x : entry.Entry). x.params) (get_or_at known.env e [] (primitive_entry [] no_judgement) k (omega (arith, above, there, length_push known.env e)))
              ∙ params_by prim name (judgement_at known j.0);
        }
      ];
    }
kept_of_terms items known (Flag j) h fits =
    let new = with_kept items known (Flag j) in
    let g = grows_kept items known (Flag j) in
    record {
      contexts = λ c. terms_later known new (context_at known c) g (h.contexts c);
      nodes = λ n. terms_later known new (judgement_at known n).context g (h.nodes n);
      entries = entries_later known new g h refl;
    }

no_context : (c : ℕ) → AreTerms nothing (context_at nothing c)
no_context zero = tt
no_context (suc c) = tt

none_of_terms : AreOfTerms nothing
none_of_terms = record { contexts = no_context; nodes = λ n. tt; entries = λ k there. absurd (omega arith) }

all_of_terms : (items : List Item) (known : Known) (ks : List Kept) → AreOfTerms known → AreSound items known ks → AreOfTerms (known_after items known ks)
all_of_terms items known [] h sound = h
all_of_terms items known (k ∷ ks) h sound = all_of_terms items (with_kept items known k) ks (kept_of_terms items known k h sound.0) sound.1

terms_named : (items : List Item) (kept : List Kept) (ctx : Trees) → IsSound items kept → AreTerms (known_of items kept) ctx → AreNamed (known_of items kept).env ctx
terms_named items kept Nil sound h = tt
terms_named items kept (ctx ▸ a) sound h =
    let N : Tree → Type 0 = λ t. IsNamed (known_of items kept).env t in
    (terms_named items kept ctx sound h.0, subst N h.1.term (kept_terms_are_named items kept sound h.1.number h.1.live).0)

-- the first parameters of those
named_without : (env : entry.Env) (n : ℕ) (ps : Trees) → AreNamed env ps → AreNamed env (without n ps)
named_without env zero ps h = h
named_without env (suc n) Nil h = named_without env n Nil h
named_without env (suc n) (ps ▸ p) h = named_without env n ps h.0

telescope_without : (n : ℕ) (ps : Trees) → IsTelescope ps → IsTelescope (without n ps)
telescope_without zero ps h = h
telescope_without (suc n) Nil h = telescope_without n Nil h
telescope_without (suc n) (ps ▸ p) h = telescope_without n ps h.0

-- A parameter's type, with arguments put in for the parameters before it, is over the entries and variables that are there.
pub parameter_formed : (s : Standing) (k n : ℕ) (ps us : Trees) (p : Tree) → IsSound s.items s.kept → k < length (env s) → without n (entry_at (env s) k).params ≡ ps ▸ p → count us ≡ count ps
    → AreReadable s us → IsWellFormed (env s) (count s.context) (put p us)
parameter_formed s k n ps us p sound there is many readable =
    let known = known_of s.items s.kept in
    let all = all_of_terms s.items nothing s.kept none_of_terms sound.all in
    let maker = all.entries k there in
    let N : Trees → Type 0 = λ ctx. AreNamed (env s) ctx in
    let named_all : N (entry_at (env s) k).params = subst N (sym maker.params) (terms_named s.items s.kept (judgement_at known maker.number).context sound (all.nodes maker.number)) in
    let over_all : IsTelescope (entry_at (env s) k).params = subst IsTelescope (sym maker.params) (scopes (kept_nodes_are_derivable s.items s.kept sound maker.number maker.live).derivable).of_ctx in
    let named : N (ps ▸ p) = subst N is (named_without (env s) n (entry_at (env s) k).params named_all) in
    let over : IsTelescope (ps ▸ p) = subst IsTelescope is (telescope_without n (entry_at (env s) k).params over_all) in
    record { named = named_put (env s) p us 0 readable.0 named.1; scoped = scoped_put_all p us (count s.context) readable.1 (subst (IsScoped p) (sym many) over.1) }

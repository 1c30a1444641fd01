-- Nodes that give the arguments of an instance: gone through from the last to the first.
use Rattle.std.proofs.Common.{◌≡◌, ◌∙◌, ◌+◌, ◌<◌, ℕ, List, [], ◌∷◌, ◌++◌, length, map, take, get_or, refl, ap, sym, subst, arith}
use mathlib.Core.Path.{subst₂}
use Rattle.std.specs.List.{AllByRecursion}
use Rattle.std.proofs.lemmas.List.{take_all, take_more}
use Rattle.ld_terms.specs.Tree.{Tree, Trees, Nil, ◌▸◌, count}
use Rattle.ld_terms.specs.Item.{Item}
use Rattle.ld_terms.specs.Bank.{tree_at, listed}
use Rattle.ld_terms.specs.declared.bank.TermId.{TermId}
use Rattle.ld_terms.specs.Known.{Known, Judgement, judgement_at, extended, JudgeArguments}
use Rattle.ld_terms.proofs.Listing.{listed-push}
use Rattle.dr_check.specs.Entered.{IsArgument}
use Rattle.dr_check.proofs.Equating.{one_more, snoc_left, snoc_right, snoc_nil}
use Rattle.dr_check.proofs.Comparing.{count-listed}

all_push : (P : ℕ → Type 0) (xs : List ℕ) (x : ℕ) → AllByRecursion P xs → P x → AllByRecursion P (xs ++ x ∷ [])
all_push P [] x h p = (p, tt)
all_push P (y ∷ ys) x h p = (h.0, all_push P ys x h.1 p)

all_front : (P : ℕ → Type 0) (xs : List ℕ) (x : ℕ) → AllByRecursion P (xs ++ x ∷ []) → AllByRecursion P xs
all_front P [] x h = tt
all_front P (y ∷ ys) x h = (h.0, all_front P ys x h.1)

all_end : (P : ℕ → Type 0) (xs : List ℕ) (x : ℕ) → AllByRecursion P (xs ++ x ∷ []) → P x
all_end P [] x h = h.0
all_end P (y ∷ ys) x h = all_end P ys x h.1

extended_last : (f : ℕ → Judgement) (g : Judgement → Tree) (us : Trees) (ns : List ℕ) (n : ℕ) → extended us (map g (map f (ns ++ n ∷ []))) ≡ extended us (map g (map f ns)) ▸ g (f n)
extended_last f g us [] n = refl
extended_last f g us (k ∷ ns) n = extended_last f g (us ▸ g (f k)) ns n

count_extended : (f : ℕ → Judgement) (g : Judgement → Tree) (us : Trees) (ns : List ℕ) → count (extended us (map g (map f ns))) ≡ count us + length ns
count_extended f g us [] = omega arith
count_extended f g us (k ∷ ns) = omega (arith, count_extended f g (us ▸ g (f k)) ns)

module _ (known : Known) (m : ℕ) (ctx : Trees) where
  abbrev at : ℕ → Judgement
  at n = judgement_at known n

  abbrev IsOver : ℕ → Type 0
  IsOver n = ((at n).entries ≡ m) × ((at n).context ≡ ctx)

  more : (ns : List ℕ) (n : ℕ) (ps us : Trees) (p u : Tree) → JudgeArguments known ns m ctx ps us → IsArgument known n m ctx p us u → JudgeArguments known (ns ++ n ∷ []) m ctx (ps ▸ p) (us ▸ u)
  more ns n ps us p u h a = record {
    over = all_push IsOver ns n h.over (a.entries, a.context);
    terms = extended_last at (λ j. j.term) Nil ns n ∙ one_more h.terms a.term;
    types = extended_last at (λ j. j.type) Nil ns n ∙ one_more h.types a.type;
    as_many = omega (arith, h.as_many);
  }

  front : (ns : List ℕ) (n : ℕ) (ps us : Trees) (p u : Tree) → JudgeArguments known (ns ++ n ∷ []) m ctx (ps ▸ p) (us ▸ u) → JudgeArguments known ns m ctx ps us
  front ns n ps us p u h = record {
    over = all_front IsOver ns n h.over;
    terms = snoc_left (sym (extended_last at (λ j. j.term) Nil ns n) ∙ h.terms);
    types = snoc_left (sym (extended_last at (λ j. j.type) Nil ns n) ∙ h.types);
    as_many = omega (arith, h.as_many);
  }

  last : (ns : List ℕ) (n : ℕ) (ps us : Trees) (p u : Tree) → JudgeArguments known (ns ++ n ∷ []) m ctx (ps ▸ p) (us ▸ u) → IsArgument known n m ctx p us u
  last ns n ps us p u h =
      let o = all_end IsOver ns n h.over in
      record {
        entries = o.0;
        context = o.1;
        term = snoc_right (sym (extended_last at (λ j. j.term) Nil ns n) ∙ h.terms);
        type = snoc_right (sym (extended_last at (λ j. j.type) Nil ns n) ∙ h.types);
      }

  module _ (items : List Item) (ns : List ℕ) (params : List TermId) (us : Trees) where
    -- of the nodes, those before i are left to give what is left of the arguments
    pub record IsGoneTo (i : ℕ) (rest : Trees) : Type 0 where
      pub same : length ns ≡ length params
      pub back : JudgeArguments known (take i ns) m ctx (listed items Nil (take i params)) rest → JudgeArguments known ns m ctx (listed items Nil params) us
      pub onward : JudgeArguments known ns m ctx (listed items Nil params) us → JudgeArguments known (take i ns) m ctx (listed items Nil (take i params)) rest

    pub gone_start : length ns ≡ length params → IsGoneTo (length ns) us
    gone_start e =
        let P : List ℕ → List TermId → Type 0 = λ xs ts. JudgeArguments known xs m ctx (listed items Nil ts) us in
        let a : take (length ns) ns ≡ ns = take_all (length ns) ns (omega arith) in
        let b : take (length ns) params ≡ params = take_all (length ns) params (omega arith) in
        record { same = e; back = subst₂ P a b; onward = subst₂ P (sym a) (sym b) }

    pub record IsStep (i j : ℕ) (rest : Trees) : Type 0 where
      pub gone : IsGoneTo i rest
      pub next : i ≡ j + 1
      pub within : j < length ns

    module _ (i j : ℕ) (rest before : Trees) (u : Tree) (d : TermId) (step : IsStep i j rest) where
      taken : take i ns ≡ take j ns ++ get_or ns j 0 ∷ []
      taken = ap (λ n. take n ns) step.next ∙ take_more ns j 0 step.within

      params_taken : listed items Nil (take i params) ≡ listed items Nil (take j params) ▸ tree_at items (get_or params j d)
      params_taken =
          let within : j < length params = omega (arith, step.gone.same, step.within) in
          ap (λ n. listed items Nil (take n params)) step.next ∙ ap (listed items Nil) (take_more params j d within) ∙ listed-push items Nil (take j params) (get_or params j d)

      pub nothing_left : rest ≡ Nil → JudgeArguments known ns m ctx (listed items Nil params) us → ⊥
      nothing_left e h =
          let q = (step.gone.onward h).terms in
          let t : extended Nil (map (λ x. x.term) (map at (take j ns ++ get_or ns j 0 ∷ []))) ≡ rest = subst (λ xs. extended Nil (map (λ x. x.term) (map at xs)) ≡ rest) taken q in
          snoc_nil (sym (extended_last at (λ x. x.term) Nil (take j ns) (get_or ns j 0)) ∙ t ∙ e)

      pub argument_is : before ▸ u ≡ rest → JudgeArguments known ns m ctx (listed items Nil params) us → IsArgument known (get_or ns j 0) m ctx (tree_at items (get_or params j d)) before u
      argument_is e h =
          let q = subst (λ xs. JudgeArguments known xs m ctx (listed items Nil (take i params)) rest) taken (step.gone.onward h) in
          let r = subst₂ (λ ps vs. JudgeArguments known (take j ns ++ get_or ns j 0 ∷ []) m ctx ps vs) params_taken (sym e) q in
          last (take j ns) (get_or ns j 0) (listed items Nil (take j params)) before (tree_at items (get_or params j d)) u r

      pub gone_more : before ▸ u ≡ rest → IsArgument known (get_or ns j 0) m ctx (tree_at items (get_or params j d)) before u → IsGoneTo j before
      gone_more e a = record {
        same = step.gone.same;
        back = λ h.
            let q = more (take j ns) (get_or ns j 0) (listed items Nil (take j params)) before (tree_at items (get_or params j d)) u h a in
            let r = subst₂ (λ ps vs. JudgeArguments known (take j ns ++ get_or ns j 0 ∷ []) m ctx ps vs) (sym params_taken) e q in
            step.gone.back (subst (λ xs. JudgeArguments known xs m ctx (listed items Nil (take i params)) rest) (sym taken) r);
        onward = λ h.
            let q = subst (λ xs. JudgeArguments known xs m ctx (listed items Nil (take i params)) rest) taken (step.gone.onward h) in
            let r = subst₂ (λ ps vs. JudgeArguments known (take j ns ++ get_or ns j 0 ∷ []) m ctx ps vs) params_taken (sym e) q in
            front (take j ns) (get_or ns j 0) (listed items Nil (take j params)) before (tree_at items (get_or params j d)) u r;
      }

    pub gone_all : (i : ℕ) (rest : Trees) → IsGoneTo i rest → i ≡ 0 → rest ≡ Nil → JudgeArguments known ns m ctx (listed items Nil params) us
    gone_all i rest g e n =
        let none : JudgeArguments known [] m ctx Nil rest = record { over = tt; terms = sym n; types = refl; as_many = ap count n } in
        g.back (subst (λ k. JudgeArguments known (take k ns) m ctx (listed items Nil (take k params)) rest) (sym e) none)

    pub ends_empty : (i : ℕ) (rest : Trees) → IsGoneTo i rest → i ≡ 0 → JudgeArguments known ns m ctx (listed items Nil params) us → rest ≡ Nil
    ends_empty i rest g e h =
        let q = subst (λ k. JudgeArguments known (take k ns) m ctx (listed items Nil (take k params)) rest) e (g.onward h) in
        sym q.terms

    pub as_many_nodes : JudgeArguments known ns m ctx (listed items Nil params) us → length ns ≡ length params
    as_many_nodes h =
        let a = count_extended at (λ j. j.term) Nil ns in
        let b = ap count h.terms in
        let c = count-listed items params in
        omega (arith, a, b, c, h.as_many)

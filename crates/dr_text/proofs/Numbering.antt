-- The terms that a writer has written, one after another.
use Rattle.std.proofs.Common.{◌≡◌, ◌≢◌, ◌<◌, ◌+◌, ℕ, suc, List, [], ◌∷◌, ◌++◌, length, map, get_or, Option, Some, None, refl, ap, sym, ◌∙◌, subst, arith, inl, inr}
use Rattle.std.specs.List.{AllByRecursion}
use Rattle.std.proofs.lemmas.List.{get_or_append_left, get_or_at, length_push, map-append}
use Rattle.std.proofs.lemmas.Bool.{cases_eq}
use Rattle.ld_terms.specs.Tree.{Tree, Const, Trees, Nil, ◌▸◌, count}
use Rattle.ld_terms.specs.Tree as tree
use Rattle.ld_terms.specs.Entry.{Env}
use Rattle.ld_terms.specs.Item.{Item, One, IsSmall}
use Rattle.ld_terms.specs.Item as item
use Rattle.ld_terms.specs.Bank.{tree_at}
use Rattle.ld_terms.specs.Known.{Known, trees, extended}
use Rattle.ld_terms.specs.Record.{Record, State, term_at, params_at, IsTerm, IsThere, Meets, IsNoEnd, after, final}
use Rattle.ld_terms.specs.declared.bank.TermId.{TermId}
use Rattle.dr_text.specs.declared.terms.Terms.{Terms}
use Rattle.ld_terms.specs.Named.{IsNamed}
use Rattle.dr_text.specs.Written.{number_in, IsNumberOf, Matches, Writes, AddsTerms, Pushes, JustWritten, Numbers, NumbersAll, WritesTerm}
use Rattle.dr_text.proofs.Records.{writes_none, writes_then, writes_more, final-append}

pub adds_none : (s : State) → AddsTerms s s
adds_none s = record { known = refl; longer = omega arith; kept = λ n h. refl }

pub adds_then : (s x y : State) → AddsTerms s x → AddsTerms x y → AddsTerms s y
adds_then s x y f g = record {
  known = g.known ∙ f.known;
  longer = omega (arith, f.longer, g.longer);
  kept = λ n h. g.kept n (omega (arith, f.longer)) ∙ f.kept n h;
}

adds_push : (s : State) (t : Tree) → AddsTerms s (record s { terms = s.terms ++ t ∷ [] })
adds_push s t = record {
  known = refl;
  longer = omega (arith, length_push s.terms t);
  kept = λ n h. get_or_append_left s.terms (t ∷ []) tree.Star n h;
}

-- a term that is written already
pub numbered_there : (items : List Item) (terms : Terms) (out : List ℕ) (t : TermId) (n : ℕ) → number_in terms.numbers.items t ≡ Some n
    → Numbers items terms terms out out (tree_at items t) n
numbered_there items terms out t n at s matches named = record {
  writes = writes_none s out;
  adds = adds_none s;
  matches = matches;
  there = (matches.each t n at).there;
  is = (matches.each t n at).is;
}

-- a record of a term is written after others, which reach the state x
just_last : (items : List Item) (s x : State) (terms : Terms) (a c later : List ℕ) (t : Tree) (r : Record) (w : Writes s a c) → final s w.records ≡ x
    → AddsTerms s x → Matches items terms x → IsNoEnd r → Pushes c later r → IsThere x r → Meets x r → after x r ≡ record x { terms = x.terms ++ t ∷ [] }
    → JustWritten items s terms a later t
just_last items s x terms a c later t r w reach adds matches no_end pushes there meets makes =
    let all = writes_more s a c later w x r reach no_end (record { spelling = pushes.spelling; there = there; meets = meets }) pushes.bytes in
    record { writes = all.0; before_it = x; adds = adds; matches = matches; reached = all.1 ∙ makes }

-- a term that names no others
pub alone_written : (items : List Item) (terms : Terms) (before later : List ℕ) (t : Tree) (r : Record) → IsNoEnd r → Pushes before later r
    → ((s : State) → IsThere s r) → ((s : State) → Meets s r) → ((s : State) → after s r ≡ record s { terms = s.terms ++ t ∷ [] })
    → WritesTerm items terms terms before later t
alone_written items terms before later t r no_end pushes there meets makes s matches named =
    just_last items s s terms before before later t r (writes_none s before) refl (adds_none s) matches no_end pushes (there s) (meets s) (makes s)

trees-push : (us : Trees) (ts : List Tree) (t : Tree) → extended us (ts ++ t ∷ []) ≡ extended us ts ▸ t
trees-push us [] t = refl
trees-push us (x ∷ ts) t = trees-push (us ▸ x) ts t

-- the terms with some numbers, where one more is there
terms_more : (f : ℕ → Tree) (ns : List ℕ) (n : ℕ) → trees (map f (ns ++ n ∷ [])) ≡ trees (map f ns) ▸ f n
terms_more f ns n = ap trees (map-append f ns (n ∷ [])) ∙ trees-push Nil (map f ns) (f n)

all_there : (s x : State) (ns : List ℕ) → AddsTerms s x → AllByRecursion (IsTerm s) ns → AllByRecursion (IsTerm x) ns
all_there s x [] adds h = tt
all_there s x (n ∷ ns) adds h = (omega (arith, h.0, adds.longer), all_there s x ns adds h.1)

terms_kept : (s x : State) (ns : List ℕ) → AddsTerms s x → AllByRecursion (IsTerm s) ns → map (term_at x) ns ≡ map (term_at s) ns
terms_kept s x [] adds h = refl
terms_kept s x (n ∷ ns) adds h =
    ap (λ t. t ∷ map (term_at x) ns) (adds.kept n h.0) ∙ ap (λ (ts : List Tree). term_at s n ∷ ts) (terms_kept s x ns adds h.1)

there_more : (P : ℕ → Type 0) (ns : List ℕ) (n : ℕ) → AllByRecursion P ns → P n → AllByRecursion P (ns ++ n ∷ [])
there_more P [] n h p = (p, tt)
there_more P (m ∷ ns) n h p = (h.0, there_more P ns n h.1 p)

pub all_numbered_none : (items : List Item) (terms : Terms) (out : List ℕ) → NumbersAll items terms terms out out Nil []
all_numbered_none items terms out s matches named = record { writes = writes_none s out; adds = adds_none s; matches = matches; there = tt; are = refl }

-- what holds of all of them in the state that is reached
record AllReached (items : List Item) (s x : State) (terms : Terms) (us : Trees) (ns : List ℕ) : Type 0 where
  pub adds : AddsTerms s x
  pub matches : Matches items terms x
  pub there : AllByRecursion (IsTerm x) ns
  pub are : trees (map (term_at x) ns) ≡ us

-- one term more
pub all_numbered_more : (items : List Item) (old mid new : Terms) (a b c : List ℕ) (us : Trees) (u : Tree) (ns : List ℕ) (n : ℕ)
    → NumbersAll items old mid a b us ns → Numbers items mid new b c u n → NumbersAll items old new a c (us ▸ u) (ns ++ n ∷ [])
all_numbered_more items old mid new a b c us u ns n first second s matches named =
    let one = first s matches named.0 in
    let s1 = final s one.writes.records in
    let N : Known → Type 0 = λ k. IsNamed k.env u in
    let two = second s1 one.matches (subst N (sym one.adds.known) named.1) in
    let s2 = final s1 two.writes.records in
    let both = writes_then s a b c one.writes two.writes in
    let reach : s2 ≡ final s both.records = sym (final-append s one.writes.records two.writes.records) in
    let R : State → Type 0 = λ x. AllReached items s x new (us ▸ u) (ns ++ n ∷ []) in
    let here : AllReached items s s2 new (us ▸ u) (ns ++ n ∷ []) = record {
      adds = adds_then s s1 s2 one.adds two.adds;
      matches = two.matches;
      there = there_more (IsTerm s2) ns n (all_there s1 s2 ns two.adds one.there) two.there;
      are = terms_more (term_at s2) ns n ∙ ap (λ vs. vs ▸ term_at s2 n) (ap trees (terms_kept s1 s2 ns two.adds one.there) ∙ one.are) ∙ ap (λ v. us ▸ v) two.is;
    } in
    let at_end = subst R reach here in
    record { writes = both; adds = at_end.adds; matches = at_end.matches; there = at_end.there; are = at_end.are }

pub two_numbered : (items : List Item) (old mid new : Terms) (a b c : List ℕ) (t u : Tree) (n m : ℕ)
    → Numbers items old mid a b t n → Numbers items mid new b c u m → NumbersAll items old new a c (Nil ▸ t ▸ u) (n ∷ m ∷ [])
two_numbered items old mid new a b c t u n m first second =
    all_numbered_more items old mid new a b c (Nil ▸ t) u (n ∷ []) m
    (all_numbered_more items old old mid a a b Nil t [] n (all_numbered_none items old a) first) second

left : (t u a b : Tree) → Nil ▸ t ▸ u ≡ Nil ▸ a ▸ b → t ≡ a
left t u a b e = cc

right : (t u a b : Tree) → Nil ▸ t ▸ u ≡ Nil ▸ a ▸ b → u ≡ b
right t u a b e = cc

-- a term of two parts, after these
pub pair_written : (items : List Item) (old new : Terms) (before c later : List ℕ) (a b : Tree) (m n : ℕ) (make : Tree → Tree → Tree) (r : Record)
    → ((x : State) → IsTerm x m → IsTerm x n → IsThere x r)
    → ((x : State) → IsSmall (One (make (term_at x m) (term_at x n))) → Meets x r)
    → ((x : State) → after x r ≡ record x { terms = x.terms ++ make (term_at x m) (term_at x n) ∷ [] })
    → ((env : Env) → IsNamed env (make a b) → IsNamed env a × IsNamed env b)
    → IsNoEnd r → IsSmall (One (make a b)) → NumbersAll items old new before c (Nil ▸ a ▸ b) (m ∷ n ∷ []) → Pushes c later r
    → WritesTerm items old new before later (make a b)
pair_written items old new before c later a b m n make r there meets makes parts no_end small first pushes s matches named =
    let names = parts s.known.env named in
    let one = first s matches ((tt, names.0), names.1) in
    let x = final s one.writes.records in
    let is : make (term_at x m) (term_at x n) ≡ make a b =
    ap (λ t. make t (term_at x n)) (left (term_at x m) (term_at x n) a b one.are) ∙ ap (make a) (right (term_at x m) (term_at x n) a b one.are) in
    let S : Tree → Type 0 = λ t. IsSmall (One t) in
    just_last items s x new before c later (make a b) r one.writes refl one.adds one.matches no_end pushes
    (there x one.there.0 one.there.1.0) (meets x (subst S (sym is) small)) (makes x ∙ ap (λ t. record x { terms = x.terms ++ t ∷ [] }) is)

count-extended : (us : Trees) (ts : List Tree) → count (extended us ts) ≡ count us + length ts
count-extended us [] = omega arith
count-extended us (t ∷ ts) = omega (arith, count-extended (us ▸ t) ts)

length-terms : (f : ℕ → Tree) (ns : List ℕ) → length (map f ns) ≡ length ns
length-terms f [] = refl
length-terms f (n ∷ ns) = ap suc (length-terms f ns)

-- an instance, after its arguments
pub instance_written : (items : List Item) (old new : Terms) (before c later : List ℕ) (k : ℕ) (us : Trees) (ns : List ℕ)
    → IsSmall (One (Const k us)) → NumbersAll items old new before c us ns → Pushes c later (Record.Const k ns)
    → WritesTerm items old new before later (Const k us)
instance_written items old new before c later k us ns small first pushes s matches named =
    let one = first s matches named.2 in
    let x = final s one.writes.records in
    let is : Const k (trees (map (term_at x) ns)) ≡ Const k us = ap (Const k) one.are in
    let S : Tree → Type 0 = λ t. IsSmall (One t) in
    let B : Known → Type 0 = λ known. k < length known.env in
    let C : Known → Type 0 = λ known. length ns ≡ params_at known.env k in
    let counted : length ns ≡ count us =
    sym (length-terms (term_at x) ns) ∙ omega (arith, count-extended Nil (map (term_at x) ns)) ∙ ap count one.are in
    just_last items s x new before c later (Const k us) (Record.Const k ns) one.writes refl one.adds one.matches tt pushes
    (subst B (sym one.adds.known) named.0, one.there)
    (subst C (sym one.adds.known) (counted ∙ named.1), subst S (sym is) small)
    (ap (λ t. record x { terms = x.terms ++ t ∷ [] }) is)

-- what holds of a term in the state that is reached
record TermReached (items : List Item) (s x : State) (terms : Terms) (t : Tree) (n : ℕ) : Type 0 where
  pub adds : AddsTerms s x
  pub matches : Matches items terms x
  pub there : n < length x.terms
  pub is : term_at x n ≡ t

same_number : (numbers : List (Option ℕ)) (t u : TermId) → u.0 ≡ t.0 → number_in numbers u ≡ number_in numbers t
same_number numbers t u e = ap (λ i. get_or numbers i None) e

some_same : (n m : ℕ) → Some n ≡ Some m → n ≡ m
some_same n m e = cc

one_number : (numbers : List (Option ℕ)) (t u : TermId) (m n : ℕ) → u.0 ≡ t.0 → number_in numbers t ≡ Some n → number_in numbers u ≡ Some m → n ≡ m
one_number numbers t u m n e h k = let same = same_number numbers t u e in some_same n m (sym h ∙ sym same ∙ k)

-- the numbers with one more, for the term that was written last
matches_more : (items : List Item) (old new : Terms) (x : State) (t : TermId) → t.0 < length items → Matches items old x
    → number_in new.numbers.items t ≡ Some old.written
    → ((u : TermId) → u.0 ≢ t.0 → number_in new.numbers.items u ≡ number_in old.numbers.items u) → new.written ≡ suc old.written
    → Matches items new (record x { terms = x.terms ++ tree_at items t ∷ [] })
matches_more items old new x t live matches at others count = record {
  all = omega (arith, length_push x.terms (tree_at items t), matches.all, count);
  each = λ u n h. elim (cases_eq u.0 t.0) as (λ _. IsNumberOf items (record x { terms = x.terms ++ tree_at items t ∷ [] }) u n) [
    | inl same ↦
        let number : old.written ≡ n = one_number new.numbers.items t u n old.written same at h in
        record {
          live = omega arith;
          there = omega (arith, length_push x.terms (tree_at items t), matches.all);
          is = get_or_at x.terms (tree_at items t) [] tree.Star n (omega (arith, matches.all)) ∙ ap (λ i. item.tree (get_or items i (One tree.Star))) (sym same);
        }
    | inr other ↦
        let was = matches.each u n (sym (others u other) ∙ h) in
        record {
          live = was.live;
          there = omega (arith, length_push x.terms (tree_at items t), was.there);
          is = get_or_append_left x.terms (tree_at items t ∷ []) tree.Star n was.there ∙ was.is;
        }
  ];
}

-- a term is written and has its number
pub numbered_last : (items : List Item) (old mid new : Terms) (before later : List ℕ) (t : TermId) (it : Tree) (n : ℕ) → t.0 < length items → it ≡ tree_at items t
    → WritesTerm items old mid before later it → n ≡ mid.written → number_in new.numbers.items t ≡ Some n
    → ((u : TermId) → u.0 ≢ t.0 → number_in new.numbers.items u ≡ number_in mid.numbers.items u) → new.written ≡ suc mid.written
    → Numbers items old new before later (tree_at items t) n
numbered_last items old mid new before later t it n live is writes number at others count s matches named =
    let N : Tree → Type 0 = λ u. IsNamed s.known.env u in
    let W : Tree → Type 0 = λ u. JustWritten items s mid before later u in
    let just = subst W is (writes s matches (subst N (sym is) named)) in
    let x = just.before_it in
    let y : State = record x { terms = x.terms ++ tree_at items t ∷ [] } in
    let here : TermReached items s y new (tree_at items t) n = record {
      adds = adds_then s x y just.adds (adds_push x (tree_at items t));
      matches = matches_more items mid new x t live just.matches (at ∙ ap Some number) others count;
      there = omega (arith, length_push x.terms (tree_at items t), just.matches.all, number);
      is = get_or_at x.terms (tree_at items t) [] tree.Star n (omega (arith, just.matches.all, number));
    } in
    let R : State → Type 0 = λ z. TermReached items s z new (tree_at items t) n in
    let at_end = subst R (sym just.reached) here in
    record { writes = just.writes; adds = at_end.adds; matches = at_end.matches; there = at_end.there; is = at_end.is }

-- A term that is read is over the entries and the variables that are there.
use Rattle.std.proofs.Common.{◌≡◌, ◌<◌, ◌≤◌, ◌+◌, ◌-◌, ℕ, zero, suc, Bool, true, false, cond, nat_lt, ◌⊎◌, inl, inr, ⊎_elim, List, [], ◌∷◌, length, map, position, Option, Some, None, Result, Ok, Err, IsOk, IfOk, take, refl, sym, ap, subst, ◌∙◌, arith, length-append}
use Rattle.std.specs.Str.{bytes_eq}
use Rattle.std.proofs.lemmas.Bool.{cases_lt}
use Rattle.std.proofs.lemmas.Bool.Decides.{nat_tests}
use Rattle.std.proofs.lemmas.List.{length-map, length-reverse, length-take}
use Rattle.std.proofs.lemmas.List.Quantifiers.{position-Some}
use Rattle.fb_base.specs.declared.places.Span.{Span}
use Rattle.fb_parse.specs.Grammar as written
use Rattle.fb_parse.specs.Grammar.{Surface, Surfaces}
use Rattle.fb_scope.specs.State.{State, numbers, bound}
use Rattle.fb_scope.specs.Resolve.{is_named, variables, made_under, shared, as_variable, as_entry, found_in, resolve}
use Rattle.fb_scope.specs.Kept.{AreImplied}
use Rattle.fb_scope.specs.declared.fault.ScopeFault.{ScopeFault}
use Rattle.fb_scope.specs.declared.fault.ScopeFault.TheVariants.{ParamsMissing, ParamsMany}
use Rattle.fb_scope.specs.declared.resolve.Found.{Found}
use Rattle.fb_scope.specs.declared.resolve.Found.TheVariants as stands
use Rattle.ld_terms.specs.Tree.{Tree, Trees, Star, Box, App, Lam, Pi, ◌▸◌, count}
use Rattle.ld_terms.specs.Entry.{Env, AreScoped}
use Rattle.ld_terms.specs.Named.{IsWellFormed, AreNamed}
use Rattle.ld_terms.specs.Bank.{StandsFor}
use Rattle.ld_terms.specs.declared.bank.TermId.{TermId}
use Rattle.ld_record.specs.Follows.{entry_at}
use Rattle.ld_infer.specs.Standing.{Standing, env, Continues}
use Rattle.ld_infer.specs.Infers.{IsReadable}
use Rattle.book_top.specs.declared.status.TextFault.{TextFault}
use Rattle.book_top.specs.Book.{names_of}
use Rattle.book_top.specs.Names.{tree_of, applied, listed, named, implied, implied_of, with_arguments, variable_count, number, given, ◌>>=◌}
use Rattle.book_top.specs.Built.{read, AreOpen}
use Rattle.book_top.specs.Judged.{IsInStep}
use Rattle.book_top.proofs.Binds.{bind_ok, ok_read}
use Rattle.book_top.proofs.Continuing.{stands_term, stands_tree}

-- each entry is noted under as many flags as it has parameters, which are few
pub record Fits (e : Env) (s : State) : Type 0 where
  pub each : (k : ℕ) → k < length e → length (made_under s k) ≡ count (entry_at e k).params
  pub short : (k : ℕ) → k < length e → length (made_under s k) ≤ 64

-- What a name stands for with so many arguments is there, and those that are implied and those that are written are as many as it
-- has parameters. Where some are implied there is a flag.
abbrev pub IsThere : Env → State → (given : ℕ) → Found → Type 0
IsThere e s given (stands.Var i) = i < variable_count s
IsThere e s given (stands.Const k n) = (k < length e) × (n + given ≡ length (made_under s k)) × (0 < n → 0 < length s.flags)

none_shared : (ns ms : List ℕ) → length ms ≡ 0 → shared ns ms ≡ 0
none_shared [] ms e = refl
none_shared (n ∷ ns) [] e = refl
none_shared (n ∷ ns) (m ∷ ms) e = absurd (omega arith)

by_tests : (b c : Bool) (k m p w g : ℕ) (f : Found) → cond b (Err (ParamsMany p g)) (cond c (Err (ParamsMissing w g)) (Ok (stands.Const k m))) ≡ Ok f
    → (b ≡ false) × (c ≡ false) × (f ≡ stands.Const k m)
by_tests true c k m p w g f e = absurd (cc)
by_tests false true k m p w g f e = absurd (cc)
by_tests false false k m p w g f e = (refl, refl, cc)

not_less : (m n : ℕ) → nat_lt m n ≡ false → n ≤ m
not_less m n e = grind (arith, nat_tests)

module _ (e : Env) (s : State) (x : List ℕ) (given : ℕ) (instance : Bool) (f : Found) where
  entry_there : (p : Option ℕ) → position (bytes_eq x) (names_of e) ≡ p → found_in s (names_of e) x given instance None ≡ Ok f → IsThere e s given f
  entry_there None is r = let u = ap (as_entry s given) (sym is) ∙ r in absurd (cc)
  entry_there (Some k) is r =
      let lt : k < length (names_of e) = (position-Some (bytes_eq x) (names_of e) k [] is).0 in
      let inside : k < length e = omega (arith, length-map e (λ d. d.name), lt) in
      let params : ℕ = length (made_under s k) in
      let tests = by_tests _ _ k (params - given) _ _ given f (ap (as_entry s given) (sym is) ∙ r) in
      let enough : given ≤ params = not_less params given tests.0 in
      let few : params - given ≤ shared (made_under s k) (numbers s.flags) = not_less (shared (made_under s k) (numbers s.flags)) (params - given) tests.1 in
      let many : length (numbers s.flags) ≡ length s.flags = length-reverse (map (λ g. g.number) s.flags) ∙ length-map s.flags (λ g. g.number) in
      subst (IsThere e s given) (sym tests.2) (
        inside,
        omega (arith, enough),
        λ some. ⊎_elim
            (λ (l : length s.flags < 1). let none = none_shared (made_under s k) (numbers s.flags) (omega (arith, many, l)) in absurd (omega (arith, none, few, some)))
            (λ (l : 1 ≤ length s.flags). omega (arith, l))
            (cases_lt (length s.flags) 1),
      )

  by_kind : (b : Bool) (i : ℕ) → i < variable_count s → as_variable b i ≡ Ok f → IsThere e s given f
  by_kind true i inside q = absurd (cc)
  by_kind false i inside q = let same : stands.Var i ≡ f = cc in subst (IsThere e s given) same inside

  name_there : (p : Option ℕ) → position (is_named x) (variables s) ≡ p → resolve s (names_of e) x given instance ≡ Ok f → IsThere e s given f
  name_there None is r = entry_there (position (bytes_eq x) (names_of e)) refl (ap (found_in s (names_of e) x given instance) (sym is) ∙ r)
  name_there (Some i) is r =
      let lt : i < length (variables s) = (position-Some (is_named x) (variables s) i None is).0 in
      let inside : i < variable_count s = omega (arith, length-append s.binders (map (λ g. Some g.name) s.flags), length-map s.flags (λ g. Some g.name), lt) in
      by_kind instance i inside (ap (found_in s (names_of e) x given instance) (sym is) ∙ r)

  pub there : resolve s (names_of e) x given instance ≡ Ok f → IsThere e s given f
  there r = name_there (position (is_named x) (variables s)) refl r

open_number : (ns ms : List ℕ) (n : ℕ) → n ≤ length ns → take n ns ≡ take n ms → n ≤ length ms
open_number ns ms n le same =
    omega (arith, le, length-take n ns, length-take n ms, ap length same)

-- the flags of arguments that are implied are open
pub implied_open : (e : Env) (s : State) (x : List ℕ) (given : ℕ) (instance : Bool) (r : Result Found ScopeFault) → r ≡ resolve s (names_of e) x given instance → IfOk r (AreImplied s) → IfOk r (AreOpen s)
implied_open e s x given instance (Err f) is implied = tt
implied_open e s x given instance (Ok (stands.Var i)) is implied = tt
implied_open e s x given instance (Ok (stands.Const k n)) is implied =
    let all = (there e s x given instance (stands.Const k n) (sym is)).1 in
    let many : length (numbers s.flags) ≡ length s.flags = length-reverse (map (λ g. g.number) s.flags) ∙ length-map s.flags (λ g. g.number) in
    let few : n ≤ length (numbers s.flags) = open_number (made_under s k) (numbers s.flags) n (omega (arith, all)) implied in
    omega (arith, few, many)

-- what is named at a term is what the name stands for
was_named : (at : Span) (x : List ℕ) (r : Result Found ScopeFault) (f : Found) → named at x r ≡ Ok f → r ≡ Ok f
was_named at x (Ok g) f e = cc
was_named at x (Err g) f e = absurd (cc)

-- Trees over an environment and so many variables, and how many there are.
record AreFormed (e : Env) (n : ℕ) (us : Trees) (many : ℕ) : Type 0 where
  named : AreNamed e us
  scoped : AreScoped us n
  counted : count us ≡ many

implied_formed : (e : Env) (v n : ℕ) → (0 < n → 0 < v) → AreFormed e v (implied v n) n
implied_formed e v zero some = record { named = tt; scoped = tt; counted = refl }
implied_formed e v (suc n) some =
    let before = implied_formed e v n (λ l. some (omega arith)) in
    let l : 0 < v = some (omega arith) in
    record { named = (before.named, tt); scoped = (before.scoped, omega (arith, l)); counted = ap suc before.counted }

-- how many arguments are implied
abbrev implied_number : Found → ℕ
implied_number (stands.Var i) = 0
implied_number (stands.Const k n) = n

first_formed : (e : Env) (s : State) (g : ℕ) (f : Found) → IsThere e s g f → AreFormed e (variable_count s) (implied_of s f) (implied_number f)
first_formed e s g (stands.Var i) h = record { named = tt; scoped = tt; counted = refl }
first_formed e s g (stands.Const k n) h = implied_formed e (variable_count s) n (λ l. let m = h.2 l in omega (arith, m))

-- a name with all its arguments
whole_formed : (e : Env) (s : State) → Fits e s → (g m : ℕ) (f : Found) (us : Trees) → IsThere e s g f → (g ≡ m) ⊎ (64 < g) → AreFormed e (variable_count s) us (implied_number f + m)
    → IsWellFormed e (variable_count s) (with_arguments f us)
whole_formed e s fits g m (stands.Var i) us h few w = record { named = tt; scoped = h }
whole_formed e s fits g m (stands.Const k n) us h few w =
    let all : n + g ≡ length (made_under s k) = h.1 in
    let short : length (made_under s k) ≤ 64 = fits.short k h.0 in
    let same : n + m ≡ length (made_under s k) = ⊎_elim (λ (q : g ≡ m). omega (arith, q, all)) (λ (q : 64 < g). absurd (omega (arith, q, all, short))) few in
    record { named = (h.0, w.counted ∙ same ∙ fits.each k h.0, w.named); scoped = w.scoped }

-- as many arguments are given as there are, or very many
given_many : (us : Surfaces) → (given us ≡ number us) ⊎ (64 < given us)
given_many us =
    ⊎_elim (λ (l : number us < 4_294_967_295). inl (omega (arith, l))) (λ (l : 4_294_967_295 ≤ number us). inr (omega (arith, l))) (cases_lt (number us) 4_294_967_295)

module _ (e : Env) (n : ℕ) where
  app_formed : (f u : Tree) → IsWellFormed e n f → IsWellFormed e n u → IsWellFormed e n (App f u)
  app_formed f u a b = record { named = (a.named, b.named); scoped = (a.scoped, b.scoped) }

  lam_formed : (t u r : Tree) (m : ℕ) → m ≡ suc n → IsWellFormed e n t → IsWellFormed e m u → Lam t u ≡ r → IsWellFormed e n r
  lam_formed t u r m one a b is = let c = subst (λ k. IsWellFormed e k u) one b in subst (IsWellFormed e n) is (record { named = (a.named, c.named); scoped = (a.scoped, c.scoped) })

  pi_formed : (t u r : Tree) (m : ℕ) → m ≡ suc n → IsWellFormed e n t → IsWellFormed e m u → Pi t u ≡ r → IsWellFormed e n r
  pi_formed t u r m one a b is = let c = subst (λ k. IsWellFormed e k u) one b in subst (IsWellFormed e n) is (record { named = (a.named, c.named); scoped = (a.scoped, c.scoped) })

one_more : (x : Option (List ℕ)) (s : State) → variable_count (bound x s) ≡ suc (variable_count s)
one_more x s = omega arith

still : (e : Env) (x : Option (List ℕ)) (s : State) → Fits e s → Fits e (bound x s)
still e x s h = record { each = h.each; short = h.short }

abbrev as_read : Tree → Result Tree TextFault
as_read t = Ok t

ok_same : (t u : Tree) → as_read t ≡ as_read u → t ≡ u
ok_same t u e = cc

abbrev as_list : Trees → Result Trees TextFault
as_list us = Ok us

list_same : (us vs : Trees) → as_list us ≡ as_list vs → us ≡ vs
list_same us vs e = cc

mutual
  pub formed : (e : Env) (s : State) → Fits e s → (x : Surface) (t : Tree) → tree_of s (names_of e) x ≡ Ok t → IsWellFormed e (variable_count s) t
  formed e s h (written.Star at) t is = subst (IsWellFormed e (variable_count s)) (ok_same Star t is) (record { named = tt; scoped = tt })
  formed e s h (written.Box_ at) t is = subst (IsWellFormed e (variable_count s)) (ok_same Box t is) (record { named = tt; scoped = tt })
  formed e s h (written.Name at x) t is =
      let p = bind_ok (named at x (resolve s (names_of e) x 0 false)) (λ f. Ok (with_arguments f (implied_of s f))) t is in
      let it = there e s x 0 false p.0 (was_named at x (resolve s (names_of e) x 0 false) p.0 p.1) in
      let first = first_formed e s 0 p.0 it in
      subst (IsWellFormed e (variable_count s)) (ok_same (with_arguments p.0 (implied_of s p.0)) t p.2)
      (whole_formed e s h 0 0 p.0 (implied_of s p.0) it (inl refl) (record { named = first.named; scoped = first.scoped; counted = omega (arith, first.counted) }))
  formed e s h (written.Inst at x us) t is =
      let p = bind_ok (named at x (resolve s (names_of e) x (given us) true)) (λ f. listed s (names_of e) (implied_of s f) us >>= (λ ts. Ok (with_arguments f ts))) t is in
      let it = there e s x (given us) true p.0 (was_named at x (resolve s (names_of e) x (given us) true) p.0 p.1) in
      let q = bind_ok (listed s (names_of e) (implied_of s p.0) us) (λ ts. Ok (with_arguments p.0 ts)) t p.2 in
      let all = listed_formed e s h (implied_of s p.0) us q.0 (implied_number p.0) (first_formed e s (given us) p.0 it) q.1 in
      subst (IsWellFormed e (variable_count s)) (ok_same (with_arguments p.0 q.0) t q.2) (whole_formed e s h (given us) (number us) p.0 q.0 it (given_many us) all)
  formed e s h (written.Apply at f us) t is =
      let p = bind_ok (tree_of s (names_of e) f) (λ g. applied s (names_of e) g us) t is in
      applied_formed e s h p.0 us t (formed e s h f p.0 p.1) p.2
  formed e s h (written.Fun at x a m) t is =
      let p = bind_ok (tree_of s (names_of e) a) (λ d. tree_of (bound (Some x) s) (names_of e) m >>= (λ u. Ok (Lam d u))) t is in
      let q = bind_ok (tree_of (bound (Some x) s) (names_of e) m) (λ u. Ok (Lam p.0 u)) t p.2 in
      lam_formed e (variable_count s) p.0 q.0 t (variable_count (bound (Some x) s)) (one_more (Some x) s) (formed e s h a p.0 p.1) (formed e (bound (Some x) s) (still e (Some x) s h) m q.0 q.1) (ok_same (Lam p.0 q.0) t q.2)
  formed e s h (written.All at x a m) t is =
      let p = bind_ok (tree_of s (names_of e) a) (λ d. tree_of (bound (Some x) s) (names_of e) m >>= (λ u. Ok (Pi d u))) t is in
      let q = bind_ok (tree_of (bound (Some x) s) (names_of e) m) (λ u. Ok (Pi p.0 u)) t p.2 in
      pi_formed e (variable_count s) p.0 q.0 t (variable_count (bound (Some x) s)) (one_more (Some x) s) (formed e s h a p.0 p.1) (formed e (bound (Some x) s) (still e (Some x) s h) m q.0 q.1) (ok_same (Pi p.0 q.0) t q.2)
  formed e s h (written.Arrow at a m) t is =
      let p = bind_ok (tree_of s (names_of e) a) (λ d. tree_of (bound None s) (names_of e) m >>= (λ u. Ok (Pi d u))) t is in
      let q = bind_ok (tree_of (bound None s) (names_of e) m) (λ u. Ok (Pi p.0 u)) t p.2 in
      pi_formed e (variable_count s) p.0 q.0 t (variable_count (bound None s)) (one_more None s) (formed e s h a p.0 p.1) (formed e (bound None s) (still e None s h) m q.0 q.1) (ok_same (Pi p.0 q.0) t q.2)

  pub applied_formed : (e : Env) (s : State) → Fits e s → (f : Tree) (us : Surfaces) (t : Tree) → IsWellFormed e (variable_count s) f → applied s (names_of e) f us ≡ Ok t → IsWellFormed e (variable_count s) t
  applied_formed e s h f written.none t w is = subst (IsWellFormed e (variable_count s)) (ok_same f t is) w
  applied_formed e s h f (written.more a us) t w is =
      let p = bind_ok (tree_of s (names_of e) a) (λ u. applied s (names_of e) (App f u) us) t is in
      applied_formed e s h (App f p.0) us t (app_formed e (variable_count s) f p.0 w (formed e s h a p.0 p.1)) p.2

  listed_formed : (e : Env) (s : State) → Fits e s → (ts : Trees) (us : Surfaces) (vs : Trees) (m : ℕ) → AreFormed e (variable_count s) ts m → listed s (names_of e) ts us ≡ Ok vs
      → AreFormed e (variable_count s) vs (m + number us)
  listed_formed e s h ts written.none vs m w is =
      subst (λ x. AreFormed e (variable_count s) x (m + 0)) (list_same ts vs is) (record { named = w.named; scoped = w.scoped; counted = omega (arith, w.counted) })
  listed_formed e s h ts (written.more a us) vs m w is =
      let p = bind_ok (tree_of s (names_of e) a) (λ u. listed s (names_of e) (ts ▸ u) us) vs is in
      let u = formed e s h a p.0 p.1 in
      let more : AreFormed e (variable_count s) (ts ▸ p.0) (suc m) = record { named = (w.named, u.named); scoped = (w.scoped, u.scoped); counted = ap suc w.counted } in
      subst (AreFormed e (variable_count s) vs) (omega arith) (listed_formed e s h (ts ▸ p.0) us vs (suc m) more p.2)

-- A number that stands for a term that was read may be judged.
pub readable : (old new : Standing) (s : State) (x : Surface) (t : TermId) → IsInStep old s → Continues old new → IsOk (tree_of s (names_of (env old)) x)
    → StandsFor new.items t (read (tree_of s (names_of (env old)) x)) → IsReadable new t
readable old new s x t step goes ok stands =
    let u : Tree = read (tree_of s (names_of (env old)) x) in
    let w = formed (env old) s (record { each = step.each; short = step.short }) x u (ok_read (tree_of s (names_of (env old)) x) ok) in
    let none : length s.binders ≡ 0 = ap length step.binders in
    let many : variable_count s ≡ count new.context = omega (arith, none, step.flags, ap count goes.context) in
    let v = subst (λ n. IsWellFormed (env old) n u) many w in
    let y = subst (λ e. IsWellFormed e (count new.context) u) (sym goes.adds.env) v in
    (stands_term new.items t u stands, subst (IsWellFormed (env new) (count new.context)) (sym (stands_tree new.items t u stands)) y)

-- A tree is plain over the first n entries where it has no `box` in it, and instances of those entries alone.
-- Renaming, substitution, lifting and putting in keep trees plain.
use Rattle.std.proofs.Common.{arith, subst, suc, sym, zero, ℕ, ◌<◌, ◌≤◌}
use Rattle.std.specs.Prelude.{⊤}
use Rattle.ld_terms.specs.Put.{in_place, lift, put}
use Rattle.ld_terms.specs.Tree.{App, Box, Const, Lam, Nil, Pi, Star, Tree, Trees, Var, ◌▸◌}
use Rattle.ld_laws.specs.Entries.{AllNameOnly, NamesOnly}
use Rattle.ld_laws.proofs.Renaming.{next, ren, ren_all, sub, sub_all, up, up_ren}
use Rattle.ld_laws.proofs.Putting.{lift_next, put_as_sub}

abbrev mutual
  pub IsPlain : Tree → (n : ℕ) → Type 0
  IsPlain Star n = ⊤
  IsPlain Box n = ⊥
  IsPlain (Var i) n = ⊤
  IsPlain (App f u) n = IsPlain f n × IsPlain u n
  IsPlain (Lam a m) n = IsPlain a n × IsPlain m n
  IsPlain (Pi a b) n = IsPlain a n × IsPlain b n
  IsPlain (Const k us) n = (k < n) × ArePlain us n

  pub ArePlain : Trees → (n : ℕ) → Type 0
  ArePlain Nil n = ⊤
  ArePlain (us ▸ u) n = ArePlain us n × IsPlain u n

-- over more entries
mutual
  pub plain_more : (t : Tree) (n m : ℕ) → n ≤ m → IsPlain t n → IsPlain t m
  plain_more Star n m le c = tt
  plain_more Box n m le c = c
  plain_more (Var i) n m le c = tt
  plain_more (App f u) n m le c = (plain_more f n m le c.0, plain_more u n m le c.1)
  plain_more (Lam a b) n m le c = (plain_more a n m le c.0, plain_more b n m le c.1)
  plain_more (Pi a b) n m le c = (plain_more a n m le c.0, plain_more b n m le c.1)
  plain_more (Const k us) n m le c = let lt = c.0 in (omega arith, plain_all_more us n m le c.1)

  plain_all_more : (us : Trees) (n m : ℕ) → n ≤ m → ArePlain us n → ArePlain us m
  plain_all_more Nil n m le c = tt
  plain_all_more (us ▸ u) n m le c = (plain_all_more us n m le c.0, plain_more u n m le c.1)

-- what a plain tree names
mutual
  pub plain_names : (t : Tree) (n : ℕ) → IsPlain t n → NamesOnly (λ k. k < n) t
  plain_names Star n c = tt
  plain_names Box n c = tt
  plain_names (Var i) n c = tt
  plain_names (App f u) n c = (plain_names f n c.0, plain_names u n c.1)
  plain_names (Lam a m) n c = (plain_names a n c.0, plain_names m n c.1)
  plain_names (Pi a b) n c = (plain_names a n c.0, plain_names b n c.1)
  plain_names (Const k us) n c = (c.0, plain_all_names us n c.1)

  plain_all_names : (us : Trees) (n : ℕ) → ArePlain us n → AllNameOnly (λ k. k < n) us
  plain_all_names Nil n c = tt
  plain_all_names (us ▸ u) n c = (plain_all_names us n c.0, plain_names u n c.1)

mutual
  plain_ren : (t : Tree) (n : ℕ) (r : ℕ → ℕ) → IsPlain t n → IsPlain (ren r t) n
  plain_ren Star n r c = tt
  plain_ren Box n r c = c
  plain_ren (Var i) n r c = tt
  plain_ren (App f u) n r c = (plain_ren f n r c.0, plain_ren u n r c.1)
  plain_ren (Lam a m) n r c = (plain_ren a n r c.0, plain_ren m n (up_ren r) c.1)
  plain_ren (Pi a b) n r c = (plain_ren a n r c.0, plain_ren b n (up_ren r) c.1)
  plain_ren (Const k us) n r c = (c.0, plain_ren_all us n r c.1)

  plain_ren_all : (us : Trees) (n : ℕ) (r : ℕ → ℕ) → ArePlain us n → ArePlain (ren_all r us) n
  plain_ren_all Nil n r c = tt
  plain_ren_all (us ▸ u) n r c = (plain_ren_all us n r c.0, plain_ren u n r c.1)

plain_up : (s : ℕ → Tree) (n : ℕ) → ((i : ℕ) → IsPlain (s i) n) → (i : ℕ) → IsPlain (up s i) n
plain_up s n h zero = tt
plain_up s n h (suc i) = plain_ren (s i) n next (h i)

mutual
  plain_sub : (t : Tree) (n : ℕ) (s : ℕ → Tree) → ((i : ℕ) → IsPlain (s i) n) → IsPlain t n → IsPlain (sub s t) n
  plain_sub Star n s h c = tt
  plain_sub Box n s h c = c
  plain_sub (Var i) n s h c = h i
  plain_sub (App f u) n s h c = (plain_sub f n s h c.0, plain_sub u n s h c.1)
  plain_sub (Lam a m) n s h c = (plain_sub a n s h c.0, plain_sub m n (up s) (plain_up s n h) c.1)
  plain_sub (Pi a b) n s h c = (plain_sub a n s h c.0, plain_sub b n (up s) (plain_up s n h) c.1)
  plain_sub (Const k us) n s h c = (c.0, plain_sub_all us n s h c.1)

  plain_sub_all : (us : Trees) (n : ℕ) (s : ℕ → Tree) → ((i : ℕ) → IsPlain (s i) n) → ArePlain us n → ArePlain (sub_all s us) n
  plain_sub_all Nil n s h c = tt
  plain_sub_all (us ▸ u) n s h c = (plain_sub_all us n s h c.0, plain_sub u n s h c.1)

plain_in_place : (us : Trees) (n : ℕ) → ArePlain us n → (i : ℕ) → IsPlain (in_place us i) n
plain_in_place Nil n c i = tt
plain_in_place (us ▸ u) n c zero = c.1
plain_in_place (us ▸ u) n c (suc i) = plain_in_place us n c.0 i

pub plain_put : (t : Tree) (us : Trees) (n : ℕ) → ArePlain us n → IsPlain t n → IsPlain (put t us) n
plain_put t us n c d = subst (λ x. IsPlain x n) (sym (put_as_sub t us)) (plain_sub t n (in_place us) (plain_in_place us n c) d)

pub plain_lift : (t : Tree) (n : ℕ) → IsPlain t n → IsPlain (lift t 1 0) n
plain_lift t n c = subst (λ x. IsPlain x n) (sym (lift_next t)) (plain_ren t n next c)

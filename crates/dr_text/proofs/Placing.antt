-- The numbers of a record in order, and the record at a place.
use Rattle.std.proofs.Common.{◌≡◌, ◌<◌, ◌≤◌, ◌+◌, ◌-◌, ◌^◌, ℕ, zero, suc, Bool, false, Option, Some, None, MatchOption, List, [], ◌∷◌, ◌++◌, length, drop, refl, ap, sym, ◌∙◌, subst, arith, append_assoc, add-one, length-append, length-drop}
use Rattle.std.specs.Prelude.{nat_eq, slice_get}
use Rattle.std.specs.List.{AllByRecursion}
use Rattle.ld_terms.specs.Rule.{EqRule, Rule}
use Rattle.ld_terms.specs.Record.{Record, numbers_before, name_of, numbers_behind}
use Rattle.dr_text.specs.Number.{number}
use Rattle.dr_text.specs.Spelling.{tag, equal_tag, node_tag, numbers_bytes, record_bytes}
use Rattle.dr_text.specs.Read.{BeginsNoNumber, AreSpelled, numbers_in, Parts, FrontRecord, Reading, Reads, is_end}
use Rattle.dr_text.specs.Shapes.{IsShapeOf, AreParts}
use Rattle.dr_text.specs.declared.shape.Shape.{Shape}
use Rattle.dr_text.proofs.Reading.{one_number, no_bytes, first_number, none_spelled, all_numbers}

-- Numbers in order.
pub spelled_rest : (bytes rest : List ℕ) (n : ℕ) → AreSpelled bytes → bytes ≡ number n ++ rest → AreSpelled rest
spelled_rest bytes rest n s e =
    elim s.ns as (λ ns. AllByRecursion (λ n. n < 2 ^ 64) ns → bytes ≡ numbers_bytes ns → AreSpelled rest) [
      | [] ↦ λ small is. absurd (no_bytes bytes n rest (ap length is) e)
      | m ∷ ms ↦ λ small is. record { ns = ms; small = small.1; is = sym (one_number m n (numbers_bytes ms) rest (sym is ∙ e)).1 }
    ] s.small s.is

pub first_left : (bytes rest : List ℕ) (n : ℕ) → bytes ≡ number n ++ rest → numbers_in bytes ≡ n ∷ numbers_in rest
first_left bytes rest n e = ap numbers_in e ∙ first_number n rest

pub none_left : (bytes : List ℕ) → AreSpelled bytes → BeginsNoNumber bytes → numbers_in bytes ≡ []
none_left bytes s none =
    elim s.ns as (λ ns. AllByRecursion (λ n. n < 2 ^ 64) ns → bytes ≡ numbers_bytes ns → numbers_in bytes ≡ []) [
      | [] ↦ λ small is. ap numbers_in is ∙ none_spelled
      | m ∷ ms ↦ λ small is. absurd (none m (numbers_bytes ms) small.0 is)
    ] s.small s.is

get_none : (ns : List ℕ) (i : ℕ) → drop i ns ≡ [] → slice_get ns i ≡ None
get_none [] i e = refl
get_none (n ∷ ns) zero e = cc
get_none (n ∷ ns) (suc i) e = get_none ns i e

get_some : (ns : List ℕ) (i n : ℕ) (new : List ℕ) → drop i ns ≡ n ∷ new → slice_get ns i ≡ Some n
get_some [] zero n new e = cc
get_some [] (suc i) n new e = cc
get_some (m ∷ ns) zero n new e = let same : m ≡ n = cc in ap Some same
get_some (m ∷ ns) (suc i) n new e = get_some ns i n new e

pub get_later : (ns : List ℕ) (p i : ℕ) → drop p ns ≡ [] → p ≤ i → slice_get ns i ≡ None
get_later [] p i e h = refl
get_later (n ∷ ns) zero i e h = cc
get_later (n ∷ ns) (suc p) zero e h = absurd (omega (arith, h))
get_later (n ∷ ns) (suc p) (suc i) e h = get_later ns p i e (omega (arith, h))

drop_suc : (ns : List ℕ) (p n : ℕ) (new : List ℕ) → drop p ns ≡ n ∷ new → drop (suc p) ns ≡ new
drop_suc [] zero n new e = cc
drop_suc [] (suc p) n new e = cc
drop_suc (m ∷ ns) zero n new e = cc
drop_suc (m ∷ ns) (suc p) n new e = drop_suc ns p n new e

pub drop_more : (ns : List ℕ) (p n : ℕ) (new : List ℕ) → drop p ns ≡ n ∷ new → drop (p + 1) ns ≡ new
drop_more ns p n new e = ap (λ i. drop i ns) (add-one p) ∙ drop_suc ns p n new e

-- the number at a place is the first of those that are left there
pub get_dropped : (ns : List ℕ) (i : ℕ) (r : Option ℕ) (new : List ℕ) → MatchOption r ((drop i ns ≡ []) × (new ≡ [])) (λ n. drop i ns ≡ n ∷ new) → r ≡ slice_get ns i
get_dropped ns i None new h = sym (get_none ns i h.0)
get_dropped ns i (Some n) new h = sym (get_some ns i n new h)

-- The record at a place.
pub whole : (t : ℕ) (front name behind rest : List ℕ) → (t ∷ (front ++ (name ++ behind))) ++ rest ≡ t ∷ (front ++ (name ++ (behind ++ rest)))
whole t front name behind rest =
    ap (λ x. t ∷ x) (append_assoc front (name ++ behind) rest ∙ ap (λ x. front ++ x) (append_assoc name behind rest))

pub front_record : (t : ℕ) (shape : Shape) (bytes before name behind rest : List ℕ) → IsShapeOf t shape → AreParts shape bytes before name behind rest
    → FrontRecord (t ∷ bytes) (record { tag = t; numbers = numbers_in before ++ numbers_in behind; name = name }) rest
front_record t shape bytes before name behind rest s a =
    let r = s.record_of a.numbers name a.others a.begins.fits in
    let e : tag r.made ≡ t = r.of_tag in
    let f : numbers_before r.made ≡ a.numbers = r.of_before in
    let g : name_of r.made ≡ name = r.of_name in
    let h : numbers_behind r.made ≡ a.others = r.of_behind in
    let b : before ≡ numbers_bytes a.numbers = a.before_is in
    let d : behind ≡ numbers_bytes a.others = a.behind_is in
    let x : numbers_in before ≡ a.numbers = ap numbers_in b ∙ all_numbers a.numbers in
    let y : numbers_in behind ≡ a.others = ap numbers_in d ∙ all_numbers a.others in
    let spelled : record_bytes r.made ≡ t ∷ (numbers_bytes a.numbers ++ (name ++ numbers_bytes a.others)) = cc in
    let all : numbers_before r.made ++ numbers_behind r.made ≡ a.numbers ++ a.others = cc in
    let same : numbers_in before ++ numbers_in behind ≡ numbers_before r.made ++ numbers_behind r.made = cc in
    record {
      it = r.made;
      is = ap (λ xs. t ∷ xs) a.begins.is ∙ sym (whole t (numbers_bytes a.numbers) name (numbers_bytes a.others) rest) ∙ ap (λ xs. xs ++ rest) (sym spelled);
      spelling = record {
        small_numbers = subst (AllByRecursion (λ n. n < 2 ^ 64)) (sym all) a.begins.small;
        name_bytes = subst (AllByRecursion (λ b. b < 256)) (sym g) a.begins.name_bytes;
      };
      gives = cc;
    }

equal_is_no_end : (rule : EqRule) → nat_eq (equal_tag rule) 0x60 ≡ false
equal_is_no_end EqRule.Refl = refl
equal_is_no_end (EqRule.Sym e) = refl
equal_is_no_end (EqRule.Trans e e') = refl
equal_is_no_end EqRule.Beta = refl
equal_is_no_end EqRule.Delta = refl
equal_is_no_end (EqRule.App e e') = refl
equal_is_no_end (EqRule.Lam e e') = refl
equal_is_no_end (EqRule.Pi e e') = refl
equal_is_no_end (EqRule.Const es) = refl

node_is_no_end : (rule : Rule) → nat_eq (node_tag rule) 0x60 ≡ false
node_is_no_end Rule.Sort = refl
node_is_no_end (Rule.Var n) = refl
node_is_no_end (Rule.Weak n n') = refl
node_is_no_end (Rule.Form n n') = refl
node_is_no_end (Rule.Appl n n') = refl
node_is_no_end (Rule.Abst n n') = refl
node_is_no_end (Rule.Conv n n' e) = refl
node_is_no_end (Rule.Def n) = refl
node_is_no_end (Rule.DefPrim n) = refl
node_is_no_end (Rule.Inst n ns) = refl
node_is_no_end (Rule.InstPrim n ns) = refl

-- the tag of an end record
pub ends_by_tag : (r : Record) → nat_eq (tag r) 0x60 ≡ is_end r
ends_by_tag Record.Star = refl
ends_by_tag Record.Box = refl
ends_by_tag (Record.Var i) = refl
ends_by_tag (Record.App t u) = refl
ends_by_tag (Record.Lam t u) = refl
ends_by_tag (Record.Pi t u) = refl
ends_by_tag (Record.Const k ts) = refl
ends_by_tag (Record.Context c t) = refl
ends_by_tag (Record.Equal l r rule) = equal_is_no_end rule
ends_by_tag (Record.Node m c t u rule) = node_is_no_end rule
ends_by_tag (Record.Entry name n) = refl
ends_by_tag (Record.PrimEntry name n) = refl
ends_by_tag (Record.Flag n) = refl
ends_by_tag (Record.End n) = refl

pub reads_record : (bytes : List ℕ) (at : ℕ) (left : List ℕ) (t : ℕ) (behind : List ℕ) (read : Parts) (rest : List ℕ) → at ≤ length bytes → left ≡ drop at bytes → left ≡ t ∷ behind → FrontRecord (t ∷ behind) read rest
    → Reads (record { bytes = bytes; at = at; ended = false }) (record { bytes = bytes; at = length bytes - length rest; ended = nat_eq t 0x60 }) read
reads_record bytes at left t behind read rest within left_is is f =
    let there : drop at bytes ≡ record_bytes f.it ++ rest = sym left_is ∙ is ∙ f.is in
    let long : length bytes - at ≡ length (record_bytes f.it) + length rest = sym (length-drop at bytes) ∙ ap length there ∙ length-append (record_bytes f.it) rest in
    let place : length bytes - length rest ≡ at + length (record_bytes f.it) = omega (arith, long, within) in
    let front : t ∷ behind ≡ tag f.it ∷ ((numbers_bytes (numbers_before f.it) ++ (name_of f.it ++ numbers_bytes (numbers_behind f.it))) ++ rest) = f.is in
    let first : t ≡ tag f.it = cc in
    let ends : nat_eq t 0x60 ≡ is_end f.it = ap (λ x. nat_eq x 0x60) first ∙ ends_by_tag f.it in
    let M : ℕ → Bool → Reading = λ a e. record { bytes = bytes; at = a; ended = e } in
    record {
      it = f.it;
      there = record { rest = rest; is = there; spelling = f.spelling };
      gives = f.gives;
      more = refl;
      next = ap (λ a. M a (nat_eq t 0x60)) place ∙ ap (M (at + length (record_bytes f.it))) ends;
    }

-- Records, their lists and what they derive are read one way.
use Rattle.std.proofs.Common.{◌≡◌, ℕ, List, [], ◌∷◌, ◌++◌, length, refl, ap, sym, ◌∙◌, arith}
use Rattle.std.proofs.lemmas.List.{append-nil, append_cancel_left}
use Rattle.ld_terms.specs.Entry.{Env}
use Rattle.ld_terms.specs.Known.{Note}
use Rattle.ld_terms.specs.Rule.{counted}
use Rattle.ld_terms.specs.Record.{Record, numbers_before, name_of, numbers_behind, start, final}
use Rattle.dr_text.specs.Number.{number}
use Rattle.dr_text.specs.Spelling.{tag, numbers_bytes, record_bytes, records_bytes, header, spelling}
use Rattle.dr_text.specs.Read.{IsRecordAt, Parts, parts_of}
use Rattle.dr_text.specs.Shapes.{Fits}
use Rattle.dr_text.specs.Derives.{Derives}
use Rattle.dr_text.specs.declared.shape.Shape.{Shape}
use Rattle.dr_text.specs.declared.shape.Shape.TheVariants.{Plain, Counted, Named}
use Rattle.dr_text.proofs.Reading.{one_number, one_numbers}
use Rattle.dr_text.proofs.Bodies.{no_name, spelled_count}
use Rattle.dr_text.proofs.Placing.{whole}
use Rattle.dr_text.proofs.Tags.{shape_at, shape_of_record, fits_shape, made, made_again}

-- the same numbers and the same name, and the same bytes behind them
record AreSame (before name behind before' name' behind' : List ℕ) (rest rest' : List ℕ) : Type 0 where
  numbers : before ≡ before'
  names : name ≡ name'
  others : behind ≡ behind'
  ends : rest ≡ rest'

-- lists of one length that begin the same list
same_front : (xs ys a b : List ℕ) → length xs ≡ length ys → xs ++ a ≡ ys ++ b → (xs ≡ ys) × (a ≡ b)
same_front [] [] a b l e = (refl, e)
same_front [] (y ∷ ys) a b l e = absurd (omega (arith, l))
same_front (x ∷ xs) [] a b l e = absurd (omega (arith, l))
same_front (x ∷ xs) (y ∷ ys) a b l e =
    let first : x ≡ y = cc in
    let behind : xs ++ a ≡ ys ++ b = cc in
    let others = same_front xs ys a b (omega (arith, l)) behind in
    let tail : xs ≡ ys = others.0 in
    (cc, others.1)

one_body : (s : Shape) (b n c b' n' c' a a' : List ℕ) → Fits s b n c → Fits s b' n' c'
    → numbers_bytes b ++ (n ++ (numbers_bytes c ++ a)) ≡ numbers_bytes b' ++ (n' ++ (numbers_bytes c' ++ a')) → AreSame b n c b' n' c' a a'
one_body (Plain count) b n c b' n' c' a a' f g e =
    let one = one_numbers b b' a a' (f.0 ∙ sym g.0) (sym (no_name (numbers_bytes b) n c a f.1 f.2) ∙ e ∙ no_name (numbers_bytes b') n' c' a' g.1 g.2) in
    record { numbers = one.0; names = f.1 ∙ sym g.1; others = f.2 ∙ sym g.2; ends = one.1 }
one_body (Counted front) b n c b' n' c' a a' f g e =
    let p = f.0 in
    let q = g.0 in
    let left = no_name (numbers_bytes b) n c a f.1 f.2 ∙ ap (λ x. numbers_bytes x ++ a) p.is ∙ spelled_count p.first p.others a in
    let right = no_name (numbers_bytes b') n' c' a' g.1 g.2 ∙ ap (λ x. numbers_bytes x ++ a') q.is ∙ spelled_count q.first q.others a' in
    let one = one_numbers p.first q.first _ _ (p.so_many ∙ sym q.so_many) (sym left ∙ e ∙ right) in
    let two = one_number (length p.others) (length q.others) _ _ one.1 in
    let three = one_numbers p.others q.others a a' two.0 two.1 in
    let first : p.first ≡ q.first = one.0 in
    let others : p.others ≡ q.others = three.0 in
    record {
      numbers = p.is ∙ ap (λ x. x ++ counted p.others) first ∙ ap (λ x. q.first ++ counted x) others ∙ sym q.is;
      names = f.1 ∙ sym g.1;
      others = f.2 ∙ sym g.2;
      ends = three.1;
    }
one_body Named b n c b' n' c' a a' f g e =
    let left = ap (λ x. numbers_bytes x ++ (n ++ (numbers_bytes c ++ a))) f.0 ∙ ap (λ x. x ++ (n ++ (numbers_bytes c ++ a))) (append-nil (number (length n))) in
    let right = ap (λ x. numbers_bytes x ++ (n' ++ (numbers_bytes c' ++ a'))) g.0 ∙ ap (λ x. x ++ (n' ++ (numbers_bytes c' ++ a'))) (append-nil (number (length n'))) in
    let one = one_number (length n) (length n') _ _ (sym left ∙ e ∙ right) in
    let two = same_front n n' (numbers_bytes c ++ a) (numbers_bytes c' ++ a') one.0 one.1 in
    let three = one_numbers c c' a a' (f.1 ∙ sym g.1) two.1 in
    record { numbers = f.0 ∙ ap (λ x. x ∷ []) one.0 ∙ sym g.0; names = two.0; others = three.0; ends = three.1 }

same_record : (f : ℕ → List ℕ → List ℕ → List ℕ → Record) (t t' : ℕ) (b n c b' n' c' : List ℕ) → t ≡ t' → b ≡ b' → n ≡ n' → c ≡ c' → f t b n c ≡ f t' b' n' c'
same_record f t t' b n c b' n' c' e g h k = cc

pub one_spelling : (r q : Record) (rest rest' : List ℕ) → record_bytes r ++ rest ≡ record_bytes q ++ rest' → (r ≡ q) × (rest ≡ rest')
one_spelling r q rest rest' e =
    let b = numbers_bytes (numbers_before r) ++ (name_of r ++ (numbers_bytes (numbers_behind r) ++ rest)) in
    let b' = numbers_bytes (numbers_before q) ++ (name_of q ++ (numbers_bytes (numbers_behind q) ++ rest')) in
    let same : tag r ∷ b ≡ tag q ∷ b' =
    sym (whole (tag r) (numbers_bytes (numbers_before r)) (name_of r) (numbers_bytes (numbers_behind r)) rest) ∙ e
    ∙ whole (tag q) (numbers_bytes (numbers_before q)) (name_of q) (numbers_bytes (numbers_behind q)) rest' in
    let tags : tag r ≡ tag q = cc in
    let bodies : b ≡ b' = cc in
    let shape = shape_of_record r in
    let one = one_body shape.0 (numbers_before r) (name_of r) (numbers_behind r) (numbers_before q) (name_of q) (numbers_behind q) rest rest'
    (fits_shape r shape.0 shape.1) (fits_shape q shape.0 (ap shape_at (sym tags) ∙ shape.1)) bodies in
    (sym (made_again r) ∙ same_record made (tag r) (tag q) _ _ _ _ _ _ tags one.numbers one.names one.others ∙ made_again q, one.ends)

pub one_record : (bytes : List ℕ) (at : ℕ) (r q : Record) → IsRecordAt bytes at r → IsRecordAt bytes at q → r ≡ q
one_record bytes at r q f g = (one_spelling r q f.rest g.rest (sym f.is ∙ g.is)).0

-- the numbers before a name and those behind it
one_split : (s : Shape) (b n c b' n' c' : List ℕ) → Fits s b n c → Fits s b' n' c' → b ++ c ≡ b' ++ c' → (b ≡ b') × (c ≡ c')
one_split (Plain count) b n c b' n' c' f g e = (sym (append-nil b) ∙ ap (λ x. b ++ x) (sym f.2) ∙ e ∙ ap (λ x. b' ++ x) g.2 ∙ append-nil b', f.2 ∙ sym g.2)
one_split (Counted front) b n c b' n' c' f g e = (sym (append-nil b) ∙ ap (λ x. b ++ x) (sym f.2) ∙ e ∙ ap (λ x. b' ++ x) g.2 ∙ append-nil b', f.2 ∙ sym g.2)
one_split Named b n c b' n' c' f g e = same_front b b' c c' (ap length f.0 ∙ sym (ap length g.0)) e

pub one_of_parts : (r q : Record) → parts_of r ≡ parts_of q → r ≡ q
one_of_parts r q e =
    let tags : tag r ≡ tag q = ap (λ (p : Parts). p.tag) e in
    let shape = shape_of_record r in
    let one = one_split shape.0 (numbers_before r) (name_of r) (numbers_behind r) (numbers_before q) (name_of q) (numbers_behind q)
    (fits_shape r shape.0 shape.1) (fits_shape q shape.0 (ap shape_at (sym tags) ∙ shape.1)) (ap (λ (p : Parts). p.numbers) e) in
    sym (made_again r) ∙ same_record made (tag r) (tag q) _ _ _ _ _ _ tags one.0 (ap (λ (p : Parts). p.name) e) one.1 ∙ made_again q

one_records : (rs qs : List Record) → records_bytes rs ≡ records_bytes qs → rs ≡ qs
one_records [] [] e = refl
one_records [] (q ∷ qs) e = cc
one_records (r ∷ rs) [] e = cc
one_records (r ∷ rs) (q ∷ qs) e =
    let one = one_spelling r q (records_bytes rs) (records_bytes qs) e in
    let first : r ≡ q = one.0 in
    let others : rs ≡ qs = one_records rs qs one.1 in
    cc

pub one_list : (rs qs : List Record) → spelling rs ≡ spelling qs → rs ≡ qs
one_list rs qs e = one_records rs qs (append_cancel_left header (records_bytes rs) (records_bytes qs) e)

same_before_last : (rs qs : List Record) (r q : Record) → rs ++ r ∷ [] ≡ qs ++ q ∷ [] → rs ≡ qs
same_before_last [] [] r q e = refl
same_before_last [] (p ∷ []) r q e = cc
same_before_last [] (p ∷ (p' ∷ qs)) r q e = cc
same_before_last (p ∷ []) [] r q e = cc
same_before_last (p ∷ (p' ∷ rs)) [] r q e = cc
same_before_last (p ∷ rs) (p' ∷ qs) r q e =
    let first : p ≡ p' = cc in
    let behind : rs ++ r ∷ [] ≡ qs ++ q ∷ [] = cc in
    let others : rs ≡ qs = same_before_last rs qs r q behind in
    cc

pub one_environment : (bytes : List ℕ) (entries entries' : Env) (kept kept' : List Note) → Derives bytes entries kept → Derives bytes entries' kept' → (entries ≡ entries') × (kept ≡ kept')
one_environment bytes entries entries' kept kept' d g =
    let all : d.listed ++ Record.End d.last ∷ [] ≡ g.listed ++ Record.End g.last ∷ [] = one_list _ _ (sym d.spelled ∙ g.spelled) in
    let same : d.listed ≡ g.listed = same_before_last d.listed g.listed (Record.End d.last) (Record.End g.last) all in
    (sym d.env ∙ ap (λ rs. (final start rs).known.env) same ∙ g.env, sym d.notes ∙ ap (λ rs. (final start rs).known.notes) same ∙ g.notes)

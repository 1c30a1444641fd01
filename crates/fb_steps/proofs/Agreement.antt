-- Places and books that agree go on together.
use Rattle.std.proofs.Common.{◌≡◌, ◌-◌, ℕ, zero, suc, List, [], ◌∷◌, ◌++◌, length, drop, ap, arith, refl, sym, ◌∙◌}
use mathlib.Core.Path.{ap₂}
use Rattle.std.proofs.lemmas.List.{drop-map, length-map}
use Rattle.std.specs.Prelude.{map, reverse}
use Rattle.ld_terms.specs.Tree.{Nil, ◌▸◌, count}
use Rattle.ld_terms.specs.Entry.{Defined}
use Rattle.ld_infer.specs.Standing.{without}
use Rattle.fb_steps.specs.Places.{OpenFlag, context_of}
use Rattle.fb_steps.specs.Agreement.{PlacesAgree}
use Rattle.fb_steps.proofs.Lists.{count_flags}

without_none : (n : ℕ) → Nil ≡ without n Nil
without_none zero = refl
without_none (suc n) = without_none n

context_drop : (n : ℕ) (fs : List OpenFlag) → context_of (drop n fs) ≡ without n (context_of fs)
context_drop zero fs = refl
context_drop (suc n) [] = without_none n
context_drop (suc n) (f ∷ fs) = context_drop n fs

same_length : {A B : Type 0} (f : A → ℕ) (g : B → ℕ) (xs : List A) (ys : List B) → map f xs ≡ map g ys → length xs ≡ length ys
same_length f g xs ys e = sym (length-map xs f) ∙ ap length e ∙ length-map ys g

pub places_agree : PlacesAgree
places_agree = record {
  where_closed = λ p env ctx s depth h.
      let same = same_length (λ f. f.number) (λ f. f.number) p.flags s.flags h.numbers_are in
      let many : length p.flags ≡ count ctx = sym (count_flags p.flags) ∙ ap count h.context_is in
      record {
        env_is = h.env_is;
        context_is = context_drop (length p.flags - depth) p.flags ∙ ap₂ without (ap (λ n. n - depth) many) h.context_is;
        numbers_are = sym (drop-map (λ f. f.number) (length p.flags - depth) p.flags) ∙ ap₂ drop (ap (λ n. n - depth) same) h.numbers_are
            ∙ drop-map (λ f. f.number) (length s.flags - depth) s.flags;
        opened_is = h.opened_is;
        marks_are = h.marks_are;
      };
  with_flag = λ p env ctx s name type h. record {
    env_is = h.env_is;
    context_is = ap (λ c. c ▸ type) h.context_is;
    numbers_are = ap₂ ◌∷◌ h.opened_is h.numbers_are;
    opened_is = let e = h.opened_is in omega (arith, e);
    marks_are = h.marks_are;
  };
  with_line = λ p env ctx s name body type h. record {
    env_is = ap₂ (λ d c. d ++ record { name = name; params = c; body = Defined body; type = type } ∷ []) h.env_is h.context_is;
    context_is = h.context_is;
    numbers_are = h.numbers_are;
    opened_is = h.opened_is;
    marks_are = ap₂ (λ m n. m ++ reverse n ∷ []) h.marks_are h.numbers_are;
  };
}

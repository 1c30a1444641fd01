-- What is said, piece by piece.
use Rattle.std.proofs.Common.{◌≡◌, ◌+◌, ◌++◌, ℕ, zero, suc, List, [], ◌∷◌, take, Some, slice_get, ap, sym, ◌∙◌, arith, append_assoc, add-one}
use Rattle.std.proofs.lemmas.List.{append-nil}
use Rattle.fb_base.specs.declared.places.Span.{Span}
use Rattle.fb_parse.specs.ItemView.{at_span}
use Rattle.book_top.specs.declared.status.TextWhat.{TextWhat}
use Rattle.ld_infer.specs.declared.failure.PathStep.{PathStep}
use Rattle.book_top.specs.Report.{dot_text, step_text, steps_text, path_text, what_text}

some_is : (x y : PathStep) → Some x ≡ Some y → x ≡ y
some_is x y e = cc

pub steps_more : (before i : ℕ) (path : List PathStep) (s : PathStep) → slice_get path i ≡ Some s
    → steps_text before (take (suc i) path) ≡ steps_text before (take i path) ++ (dot_text (before + i) ++ step_text s)
steps_more before i [] s e = absurd (none_is_not s e)
  where
    none_is_not : (s : PathStep) → slice_get [] i ≡ Some s → ⊥
    none_is_not s e = cc
steps_more before zero (x ∷ xs) s e =
    append-nil (dot_text before ++ step_text x) ∙ ap (λ y. dot_text before ++ step_text y) (some_is x s e) ∙ ap (λ n. dot_text n ++ step_text s) (omega arith)
steps_more before (suc i) (x ∷ xs) s e =
    ap (λ bytes. (dot_text before ++ step_text x) ++ bytes) (steps_more (suc before) i xs s e)
    ∙ sym (append_assoc (dot_text before ++ step_text x) (steps_text (suc before) (take i xs)) (dot_text (suc before + i) ++ step_text s))
    ∙ ap (λ n. ((dot_text before ++ step_text x) ++ steps_text (suc before) (take i xs)) ++ (dot_text n ++ step_text s)) (omega arith)

-- one more step is said
pub step_said : (a : List ℕ) (path : List PathStep) (i : ℕ) (s : PathStep) (x y z : List ℕ) → x ≡ a ++ path_text (take i path) → y ≡ x ++ dot_text i → z ≡ y ++ step_text s
    → slice_get path i ≡ Some s → z ≡ a ++ path_text (take (i + 1) path)
step_said a path i s x y z one two three get =
    three ∙ ap (λ b. b ++ step_text s) (two ∙ ap (λ b. b ++ dot_text i) one)
    ∙ append_assoc (a ++ path_text (take i path)) (dot_text i) (step_text s)
    ∙ append_assoc a (path_text (take i path)) (dot_text i ++ step_text s)
    ∙ ap (λ n. a ++ (path_text (take i path) ++ (dot_text n ++ step_text s))) (omega arith)
    ∙ ap (λ b. a ++ b) (sym (steps_more 0 i path s get))
    ∙ ap (λ n. a ++ path_text (take n path)) (sym (add-one i))

-- words and the name behind them are said
pub name_said : (old mid new text words : List ℕ) (at : Span) (w : TextWhat) → what_text text at w ≡ words ++ at_span text at → mid ≡ old ++ words → new ≡ mid ++ at_span text at
    → new ≡ old ++ what_text text at w
name_said old mid new text words at w is one two =
    two ∙ ap (λ b. b ++ at_span text at) one ∙ append_assoc old words (at_span text at) ∙ ap (λ b. old ++ b) (sym is)

-- What was appended so far, with what is still to come, is the whole text.
use Rattle.std.proofs.Common.{◌≡◌, ℕ, suc, ◌+◌, ◌-◌, ◌<◌, ◌≤◌, Bool, true, false, List, [], ◌∷◌, ◌++◌, length, get_or, drop, Bor, Result, Ok, Err, IsErr, refl, ap, ◌∙◌, sym, subst, arith, append_assoc}
use Rattle.std.specs.Prelude.{codes}
use Rattle.std.proofs.lemmas.Bool.{false≢true}
use Rattle.std.proofs.lemmas.List.{append-nil}
use Rattle.std.proofs.Math.Seq.{drop-cons}
use Rattle.std.proofs.Math.ListN.{drop_of_length-le}
use Rattle.fb_base.specs.declared.texts.NoMemory.{NoMemory}
use Rattle.fb_parse.specs.declared.tree.Form.TheVariants as v
use Rattle.fb_parse.specs.declared.tree.Tree.{Tree}
use Rattle.fb_parse.specs.declared.tree.Arg.{Arg}
use Rattle.fb_parse.specs.View.{view, views, form_view}
use Rattle.fb_parse.specs.ItemView.{arg_view, args_view}
use Rattle.fb_parse.proofs.Views.{view_inst, view_apply}
use Rattle.fb_write.specs.Canonical.{is_open_ended, is_compound, in_parentheses, term_text, terms_text, arguments_text, arg_text, filling_text, bars_text}
use Rattle.fb_write.specs.Appends.{AppendsFront, Appends}
use Rattle.fb_write.specs.Writing.{comma, terms_from, args_text, args_from}

pub record Written (old mid rest whole : List ℕ) : Type 0 where
  pub done : List ℕ
  pub so_far : mid ≡ old ++ done
  pub split : whole ≡ done ++ rest

pub start : {old whole text : List ℕ} → whole ≡ text → Written old old text whole
start {old} e = record { done = []; so_far = sym (append-nil old); split = e }

pub step : {old mid new whole : List ℕ} (t rest : List ℕ) → Written old mid (t ++ rest) whole → new ≡ mid ++ t → Written old new rest whole
step {old} {mid} {new} {whole} t rest w e = record {
  done = w.done ++ t;
  so_far = e ∙ ap (λ v. v ++ t) w.so_far ∙ append_assoc old w.done t;
  split = w.split ∙ sym (append_assoc w.done t rest);
}

pub stop : {old mid new whole : List ℕ} (t rest : List ℕ) → Written old mid (t ++ rest) whole → AppendsFront mid new t → AppendsFront old new whole
stop {old} {mid} {new} {whole} t rest w f = record {
  front = w.done ++ f.front;
  rest = f.rest ++ rest;
  split = w.split ∙ ap (λ v. w.done ++ (v ++ rest)) f.split ∙ simp append_assoc;
  appended = f.appended ∙ ap (λ v. v ++ f.front) w.so_far ∙ append_assoc old w.done f.front;
}

pub exits : {old new whole : List ℕ} (r : Result (Unit {0}) NoMemory) → IsErr r → AppendsFront old new whole → Appends old new whole r
exits (Ok u) h f = absurd (false≢true h)
exits (Err e) h f = f

pub last : {old mid whole : List ℕ} (new t : List ℕ) (r : Result (Unit {0}) NoMemory) → Written old mid t whole → Appends mid new t r → Appends old new whole r
last {old} new t (Ok u) w e = e ∙ ap (λ v. v ++ t) w.so_far ∙ append_assoc old w.done t ∙ ap (λ v. old ++ v) (sym w.split)
last {old} new t (Err x) w f = stop t [] (record { done = w.done; so_far = w.so_far; split = w.split ∙ ap (λ v. w.done ++ v) (sym (append-nil t)) }) f

pub finished : {old mid whole : List ℕ} → Written old mid [] whole → mid ≡ old ++ whole
finished {old} w = w.so_far ∙ ap (λ v. old ++ v) (sym (w.split ∙ append-nil w.done))

pub rest_is : {old mid whole : List ℕ} (t u : List ℕ) → t ≡ u → Written old mid t whole → Written old mid u whole
rest_is {old} {mid} {whole} t u e w = subst (λ v. Written old mid v whole) e w

-- The text of each form.
pub inst_text : (t : Tree) (x : Bor (List ℕ)) (all : Bor (List Tree)) → t.form.now ≡ v.Inst x all → term_text (view t) ≡ x.now ++ (codes "(" ++ (terms_text (views all.now) ++ codes ")"))
inst_text t x all e = ap (λ y. term_text (form_view t.span y)) e ∙ ap term_text (view_inst t.span x all) ∙ simp append_assoc

pub apply_text : (t f : Tree) (all : Bor (List Tree)) (b : Bool) → t.form.now ≡ v.Apply f all → b ≡ is_compound (view f) → term_text (view t) ≡ in_parentheses b (term_text (view f)) ++ arguments_text (views all.now)
apply_text t f all b e h =
    ap (λ y. term_text (form_view t.span y)) e ∙ ap term_text (view_apply t.span f all) ∙ ap (λ c. in_parentheses c (term_text (view f)) ++ arguments_text (views all.now)) (sym h)

pub fun_text : (t : Tree) (x : Bor (List ℕ)) (a m : Tree) → t.form.now ≡ v.Fun x a m →
    term_text (view t) ≡ (codes "fun " ++ x.now ++ codes " : " ++ term_text (view a) ++ codes " . ") ++ term_text (view m)
fun_text t x a m e = ap (λ y. term_text (form_view t.span y)) e

pub all_text : (t : Tree) (x : Bor (List ℕ)) (a m : Tree) → t.form.now ≡ v.All x a m →
    term_text (view t) ≡ (codes "all " ++ x.now ++ codes " : " ++ term_text (view a) ++ codes " . ") ++ term_text (view m)
all_text t x a m e = ap (λ y. term_text (form_view t.span y)) e

pub arrow_text : (t a m : Tree) (b : Bool) → t.form.now ≡ v.Arrow a m → b ≡ is_open_ended (view a) →
    term_text (view t) ≡ in_parentheses b (term_text (view a)) ++ (codes " -> " ++ term_text (view m))
arrow_text t a m b e h =
    ap (λ y. term_text (form_view t.span y)) e ∙ ap (λ c. in_parentheses c (term_text (view a)) ++ codes " -> " ++ term_text (view m)) (sym h)
    ∙ append_assoc (in_parentheses b (term_text (view a))) (codes " -> ") (term_text (view m))

-- Lists, one more at a time.
next_is : {A : Type 0} (us : List A) (i : ℕ) (a : A) → i < length us → a ≡ get_or us i a → drop i us ≡ a ∷ drop (i + 1) us
next_is us i a l e = drop-cons us i a l ∙ ap (λ x. x ∷ drop (suc i) us) (sym e) ∙ ap (λ n. a ∷ drop n us) (let s : suc i ≡ i + 1 = omega arith in s)

terms_next : (first : Bool) (us : List Tree) (i : ℕ) (a : Tree) → drop i us ≡ a ∷ drop (i + 1) us → terms_from first (views (drop i us)) ≡ (comma first ++ term_text (view a)) ++ terms_from false (views (drop (i + 1) us))
terms_next true us i a e = ap (λ x. terms_from true (views x)) e
terms_next false us i a e = ap (λ x. terms_from false (views x)) e

pub terms_go_on : {old mid whole : List ℕ} (first : Bool) (us : List Tree) (i : ℕ) (a : Tree) → i < length us → a ≡ get_or us i a → Written old mid (terms_from first (views (drop i us))) whole →
    Written old mid ((comma first ++ term_text (view a)) ++ terms_from false (views (drop (i + 1) us))) whole
terms_go_on first us i a l e w = rest_is _ _ (terms_next first us i a (next_is us i a l e)) w

none_from : (first : Bool) → terms_from first (views []) ≡ []
none_from true = refl
none_from false = refl

pub terms_end : {old mid whole : List ℕ} (first : Bool) (us : List Tree) (i : ℕ) → length us ≤ i → Written old mid (terms_from first (views (drop i us))) whole → mid ≡ old ++ whole
terms_end first us i l w = finished (rest_is _ _ (ap (λ x. terms_from first (views x)) (drop_of_length-le us l) ∙ none_from first) w)

pub arguments_go_on : {old mid whole : List ℕ} (us : List Tree) (i : ℕ) (a : Tree) → i < length us → a ≡ get_or us i a → Written old mid (arguments_text (views (drop i us))) whole →
    Written old mid ((codes " " ++ in_parentheses (is_compound (view a)) (term_text (view a))) ++ arguments_text (views (drop (i + 1) us))) whole
arguments_go_on us i a l e w = rest_is _ _ (ap (λ x. arguments_text (views x)) (next_is us i a l e)) w

pub arguments_end : {old mid whole : List ℕ} (us : List Tree) (i : ℕ) → length us ≤ i → Written old mid (arguments_text (views (drop i us))) whole → mid ≡ old ++ whole
arguments_end us i l w = finished (rest_is _ _ (ap (λ x. arguments_text (views x)) (drop_of_length-le us l)) w)

args_next : (first : Bool) (us : List Arg) (i : ℕ) (a : Arg) → drop i us ≡ a ∷ drop (i + 1) us → args_from first (args_view (drop i us)) ≡ (comma first ++ arg_text (arg_view a)) ++ args_from false (args_view (drop (i + 1) us))
args_next true us i a e = ap (λ x. args_from true (args_view x)) e
args_next false us i a e = ap (λ x. args_from false (args_view x)) e

pub args_go_on : {old mid whole : List ℕ} (first : Bool) (us : List Arg) (i : ℕ) (a : Arg) → i < length us → a ≡ get_or us i a → Written old mid (args_from first (args_view (drop i us))) whole →
    Written old mid ((comma first ++ arg_text (arg_view a)) ++ args_from false (args_view (drop (i + 1) us))) whole
args_go_on first us i a l e w = rest_is _ _ (args_next first us i a (next_is us i a l e)) w

no_args_from : (first : Bool) → args_from first (args_view []) ≡ []
no_args_from true = refl
no_args_from false = refl

pub args_end : {old mid whole : List ℕ} (first : Bool) (us : List Arg) (i : ℕ) → length us ≤ i → Written old mid (args_from first (args_view (drop i us))) whole → mid ≡ old ++ whole
args_end first us i l w = finished (rest_is _ _ (ap (λ x. args_from first (args_view x)) (drop_of_length-le us l) ∙ no_args_from first) w)

bars_less : (n i : ℕ) → i < n → bars_text (n - i) ≡ codes "| " ++ bars_text (n - (i + 1))
bars_less n i l = ap bars_text (let e : n - i ≡ suc (n - (i + 1)) = omega (arith, l) in e)

pub bars_go_on : {old mid whole : List ℕ} (n i : ℕ) → i < n → Written old mid (bars_text (n - i)) whole → Written old mid (codes "| " ++ bars_text (n - (i + 1))) whole
bars_go_on n i l w = rest_is _ _ (bars_less n i l) w

pub bars_end : {old mid whole : List ℕ} (n i : ℕ) → n ≤ i → Written old mid (bars_text (n - i)) whole → mid ≡ old ++ whole
bars_end n i l w = finished (rest_is _ _ (ap bars_text (let e : n - i ≡ 0 = omega (arith, l) in e)) w)

pub filling_some : (args : List Arg) → 0 < length args → filling_text (args_view args) ≡ codes "(" ++ (args_text (args_view args) ++ codes ")")
filling_some [] l = absurd (omega arith)
filling_some (a ∷ args) l = simp append_assoc

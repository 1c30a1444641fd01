-- The texts of applications, lists and instances, from the end.
use Rattle.std.proofs.Common.{◌≡◌, ℕ, List, ◌++◌, ap, ◌∙◌, sym, append_assoc}
use Rattle.std.specs.Prelude.{codes}
use Rattle.std.proofs.lemmas.List.{append-nil}
use Rattle.fb_parse.specs.Grammar.{Surface, Surfaces, Star, Box_, Name, Inst, Apply, Fun, All, Arrow, none, more}
use Rattle.fb_write.specs.Canonical.{nowhere, term_text, terms_text, more_terms_text, arguments_text, is_compound}
use Rattle.fb_show.specs.Display.{applied, behind, instance}
use Rattle.fb_show.specs.Shown.{head_text, part_text, filling_text}

arguments_behind : (us : Surfaces) (a : Surface) → arguments_text (behind us a) ≡ arguments_text us ++ codes " " ++ part_text (is_compound a) a
arguments_behind none a = append-nil (codes " " ++ part_text (is_compound a) a)
arguments_behind (more b us) a =
    let first = codes " " ++ part_text (is_compound b) b in
    ap (λ v. first ++ v) (arguments_behind us a ∙ append_assoc (arguments_text us) (codes " ") (part_text (is_compound a) a))
    ∙ sym (append_assoc first (arguments_text us) (codes " " ++ part_text (is_compound a) a)) ∙ sym (append_assoc (first ++ arguments_text us) (codes " ") (part_text (is_compound a) a))

one : (f a : Surface) → term_text (Apply nowhere f (more a none)) ≡ part_text (is_compound f) f ++ codes " " ++ part_text (is_compound a) a
one f a = ap (λ v. part_text (is_compound f) f ++ v) (append-nil (codes " " ++ part_text (is_compound a) a)) ∙ sym (append_assoc (part_text (is_compound f) f) (codes " ") (part_text (is_compound a) a))

pub applied_text : (f a : Surface) → term_text (applied f a) ≡ head_text f ++ codes " " ++ part_text (is_compound a) a
applied_text (Apply s f us) a =
    let first = part_text (is_compound f) f in
    ap (λ v. first ++ v) (arguments_behind us a ∙ append_assoc (arguments_text us) (codes " ") (part_text (is_compound a) a))
    ∙ sym (append_assoc first (arguments_text us) (codes " " ++ part_text (is_compound a) a)) ∙ sym (append_assoc (first ++ arguments_text us) (codes " ") (part_text (is_compound a) a))
applied_text (Star s) a = one (Star s) a
applied_text (Box_ s) a = one (Box_ s) a
applied_text (Name s x) a = one (Name s x) a
applied_text (Inst s x us) a = one (Inst s x us) a
applied_text (Fun s x b m) a = one (Fun s x b m) a
applied_text (All s x b m) a = one (All s x b m) a
applied_text (Arrow s b m) a = one (Arrow s b m) a

more_behind : (us : Surfaces) (a : Surface) → more_terms_text (behind us a) ≡ more_terms_text us ++ codes ", " ++ term_text a
more_behind none a = append-nil (codes ", " ++ term_text a)
more_behind (more b us) a =
    let first = codes ", " ++ term_text b in
    ap (λ v. first ++ v) (more_behind us a ∙ append_assoc (more_terms_text us) (codes ", ") (term_text a))
    ∙ sym (append_assoc first (more_terms_text us) (codes ", " ++ term_text a)) ∙ sym (append_assoc (first ++ more_terms_text us) (codes ", ") (term_text a))

pub first_text : (a : Surface) → terms_text (behind none a) ≡ term_text a
first_text a = append-nil (term_text a)

pub later_text : (b a : Surface) (us : Surfaces) → terms_text (behind (more b us) a) ≡ terms_text (more b us) ++ codes ", " ++ term_text a
later_text b a us =
    ap (λ v. term_text b ++ v) (more_behind us a ∙ append_assoc (more_terms_text us) (codes ", ") (term_text a))
    ∙ sym (append_assoc (term_text b) (more_terms_text us) (codes ", " ++ term_text a)) ∙ sym (append_assoc (term_text b ++ more_terms_text us) (codes ", ") (term_text a))

pub instance_text : (x : List ℕ) (us : Surfaces) → term_text (instance x us) ≡ x ++ filling_text us
instance_text x none = sym (append-nil x)
instance_text x (more a us) = append_assoc (x ++ codes "(") (terms_text (more a us)) (codes ")") ∙ append_assoc x (codes "(") (terms_text (more a us) ++ codes ")") ∙ ap (λ v. x ++ v) (sym (append_assoc (codes "(") (terms_text (more a us)) (codes ")")))

-- A record is the one with its parts.
use Rattle.std.proofs.Common.{◌≡◌, Result, Ok, Err, IfOk, append-nil, refl, ap, ◌∙◌}
use Rattle.ld_terms.specs.Rule.{EqRule, Rule}
use Rattle.ld_terms.specs.Record.{Record}
use Rattle.dr_text.specs.Read.{Parts, parts_of}
use Rattle.dr_check.specs.declared.spelled.Spelled.{Spelled}
use Rattle.dr_check.specs.Spelled.{record_of}
use Rattle.dr_check.specs.Decoded.{record_by}

pub made_again : (r : Record) → record_by (parts_of r) ≡ r
made_again Record.Star = refl
made_again Record.Box = refl
made_again (Record.Var i) = refl
made_again (Record.App t u) = refl
made_again (Record.Lam t u) = refl
made_again (Record.Pi t u) = refl
made_again (Record.Const k ts) = ap (Record.Const k) (append-nil ts)
made_again (Record.Context c t) = refl
made_again (Record.Equal l r EqRule.Refl) = refl
made_again (Record.Equal l r (EqRule.Sym x)) = refl
made_again (Record.Equal l r (EqRule.Trans x y)) = refl
made_again (Record.Equal l r EqRule.Beta) = refl
made_again (Record.Equal l r EqRule.Delta) = refl
made_again (Record.Equal l r (EqRule.App x y)) = refl
made_again (Record.Equal l r (EqRule.Lam x y)) = refl
made_again (Record.Equal l r (EqRule.Pi x y)) = refl
made_again (Record.Equal l r (EqRule.Const es)) = ap (λ xs. Record.Equal l r (EqRule.Const xs)) (append-nil es)
made_again (Record.Node m c t u Rule.Sort) = refl
made_again (Record.Node m c t u (Rule.Var x)) = refl
made_again (Record.Node m c t u (Rule.Weak x y)) = refl
made_again (Record.Node m c t u (Rule.Form x y)) = refl
made_again (Record.Node m c t u (Rule.Appl x y)) = refl
made_again (Record.Node m c t u (Rule.Abst x y)) = refl
made_again (Record.Node m c t u (Rule.Conv x y z)) = refl
made_again (Record.Node m c t u (Rule.Def x)) = refl
made_again (Record.Node m c t u (Rule.DefPrim x)) = refl
made_again (Record.Node m c t u (Rule.Inst x ns)) = ap (λ xs. Record.Node m c t u (Rule.Inst x xs)) (append-nil ns)
made_again (Record.Node m c t u (Rule.InstPrim x ns)) = ap (λ xs. Record.Node m c t u (Rule.InstPrim x xs)) (append-nil ns)
made_again (Record.Entry name n) = refl
made_again (Record.PrimEntry name n) = refl
made_again (Record.Flag n) = refl
made_again (Record.End n) = refl

-- what has the parts of a record is that record
made_from : (parts : Parts) (r : Record) → parts ≡ parts_of r → record_by parts ≡ r
made_from parts r e = ap record_by e ∙ made_again r

pub decoded : {E : Type 0} (result : Result Spelled E) (parts : Parts) → IfOk result (λ s. record_of s ≡ record_by parts)
    → IfOk result (λ s. (r : Record) → parts ≡ parts_of r → record_of s ≡ r)
decoded (Ok s) parts h = λ r e. h ∙ made_from parts r e
decoded (Err e) parts h = h

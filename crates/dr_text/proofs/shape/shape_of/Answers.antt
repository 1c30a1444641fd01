use Rattle.std.proofs.Common.{sym, subst, arith, ⊎_elim}
use Rattle.dr_text.specs.Shapes.{IsShapeOf}
use Rattle.dr_text.specs.declared.shape.Shape.TheVariants.{Plain, Counted, Named}
use Rattle.dr_text.proofs.Tags.{from, tag_01, tag_02, tag_03, tag_04, tag_05, tag_06, tag_07, tag_10, tag_20, tag_21, tag_22, tag_23, tag_24, tag_25, tag_26, tag_27, tag_28, tag_30, tag_31, tag_32, tag_33, tag_34, tag_35, tag_36, tag_37, tag_38, tag_39, tag_3a, tag_40, tag_41, tag_50, tag_60}
use Rattle.dr_text.proofs.shape.shape_of.Goals as goal

pub returns-in-1 : goal.returns-in-1
returns-in-1 c = from (λ t. IsShapeOf t (Plain 0)) 0x01 c.args.tag (omega arith) tag_01 (λ h. from (λ t. IsShapeOf t (Plain 0)) 0x02 c.args.tag (omega (arith, h)) tag_02 (λ h. absurd (omega (arith, h))))

pub returns-in-3 : goal.returns-in-3
returns-in-3 c = ⊎_elim (λ e. subst (λ t. IsShapeOf t (Plain 1)) (sym e) tag_03) (λ e. ⊎_elim (λ e. subst (λ t. IsShapeOf t (Plain 1)) (sym e) tag_50) (λ e. subst (λ t. IsShapeOf t (Plain 1)) (sym e) tag_60) e) c.in-3.is

pub returns-in-4 : goal.returns-in-4
returns-in-4 c = ⊎_elim (λ e. subst (λ t. IsShapeOf t (Plain 2)) (sym e) tag_10) (λ e. subst (λ t. IsShapeOf t (Plain 2)) (sym e) tag_20) c.in-4.is

pub returns-in-4-2 : goal.returns-in-4-2
returns-in-4-2 c = from (λ t. IsShapeOf t (Plain 2)) 0x04 c.args.tag (grind arith) tag_04 (λ h. from (λ t. IsShapeOf t (Plain 2)) 0x05 c.args.tag (omega (arith, h)) tag_05 (λ h. from (λ t. IsShapeOf t (Plain 2)) 0x06 c.args.tag (omega (arith, h)) tag_06 (λ h. absurd (omega (arith, h)))))

pub returns-in-4-3 : goal.returns-in-4-3
returns-in-4-3 c = from (λ t. IsShapeOf t (Plain 2)) 0x23 c.args.tag (grind arith) tag_23 (λ h. from (λ t. IsShapeOf t (Plain 2)) 0x24 c.args.tag (omega (arith, h)) tag_24 (λ h. absurd (omega (arith, h))))

pub returns-in-33 : goal.returns-in-33
returns-in-33 c = subst (λ t. IsShapeOf t (Plain 3)) (sym c.in-33.is) tag_21

pub returns-in-34 : goal.returns-in-34
returns-in-34 c = ⊎_elim (λ e. subst (λ t. IsShapeOf t (Plain 4)) (sym e) tag_22) (λ e. subst (λ t. IsShapeOf t (Plain 4)) (sym e) tag_30) c.in-34.is

pub returns-in-34-2 : goal.returns-in-34-2
returns-in-34-2 c = from (λ t. IsShapeOf t (Plain 4)) 0x25 c.args.tag (omega arith) tag_25 (λ h. from (λ t. IsShapeOf t (Plain 4)) 0x26 c.args.tag (omega (arith, h)) tag_26 (λ h. from (λ t. IsShapeOf t (Plain 4)) 0x27 c.args.tag (omega (arith, h)) tag_27 (λ h. absurd (omega (arith, h)))))

pub returns-in-49 : goal.returns-in-49
returns-in-49 c = subst (λ t. IsShapeOf t (Plain 5)) (sym c.in-49.is) tag_31

pub returns-in-49-2 : goal.returns-in-49-2
returns-in-49-2 c = from (λ t. IsShapeOf t (Plain 5)) 0x37 c.args.tag (omega arith) tag_37 (λ h. from (λ t. IsShapeOf t (Plain 5)) 0x38 c.args.tag (omega (arith, h)) tag_38 (λ h. absurd (omega (arith, h))))

pub returns-in-50 : goal.returns-in-50
returns-in-50 c = from (λ t. IsShapeOf t (Plain 6)) 0x32 c.args.tag (grind arith) tag_32 (λ h. from (λ t. IsShapeOf t (Plain 6)) 0x33 c.args.tag (omega (arith, h)) tag_33 (λ h. from (λ t. IsShapeOf t (Plain 6)) 0x34 c.args.tag (omega (arith, h)) tag_34 (λ h. from (λ t. IsShapeOf t (Plain 6)) 0x35 c.args.tag (omega (arith, h)) tag_35 (λ h. absurd (omega (arith, h))))))

pub returns-in-54 : goal.returns-in-54
returns-in-54 c = subst (λ t. IsShapeOf t (Plain 7)) (sym c.in-54.is) tag_36

pub returns-in-7 : goal.returns-in-7
returns-in-7 c = subst (λ t. IsShapeOf t (Counted 1)) (sym c.in-7.is) tag_07

pub returns-in-40 : goal.returns-in-40
returns-in-40 c = subst (λ t. IsShapeOf t (Counted 2)) (sym c.in-40.is) tag_28

pub returns-in-57 : goal.returns-in-57
returns-in-57 c = from (λ t. IsShapeOf t (Counted 5)) 0x39 c.args.tag (omega arith) tag_39 (λ h. from (λ t. IsShapeOf t (Counted 5)) 0x3a c.args.tag (omega (arith, h)) tag_3a (λ h. absurd (omega (arith, h))))

pub returns-in-64 : goal.returns-in-64
returns-in-64 c = from (λ t. IsShapeOf t Named) 0x40 c.args.tag (omega arith) tag_40 (λ h. from (λ t. IsShapeOf t Named) 0x41 c.args.tag (omega (arith, h)) tag_41 (λ h. absurd (omega (arith, h))))

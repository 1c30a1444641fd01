use Rattle.std.proofs.Common.{◌≡◌, ◌+◌, length, refl, Result, Ok, Err, IsOk, IfOk, sym, ap, subst, ◌∙◌}
use Rattle.ld_terms.specs.Tree as spec
use Rattle.ld_terms.specs.Tree.{◌▸◌}
use Rattle.ld_terms.specs.Item.{One, Many, IsSmall}
use Rattle.ld_terms.specs.Bank.{tree_at, list_at}
use Rattle.fb_parse.specs.View.{view, views}
use Rattle.fb_scope.specs.declared.fault.ScopeFault.{ScopeFault}
use Rattle.fb_scope.specs.declared.resolve.Found.{Found}
use Rattle.fb_scope.specs.declared.resolve.Found.TheVariants as stands
use Rattle.ld_infer.specs.Standing.{env}
use Rattle.book_top.specs.Book.{names_of}
use Rattle.book_top.specs.Names.{tree_of, applied, listed, named, implied as implied_variables, variable_count}
use Rattle.book_top.specs.Built.{read, read_list, AreOpen}
use Rattle.book_top.proofs.Binds.{ok_first, ok_read, name_read, inst_read}
use Rattle.ld_infer.proofs.Going.{continues_refl, continues_trans}
use Rattle.book_top.proofs.Continuing.{stands_term, stands_tree, stands_list, list_is, built_as, added, tree_moved, applied_moved, part_stops}
use Rattle.book_top.proofs.Applying.{GoesOn, goes_behind, argument_ok, argument_small, head_read, function_read_small}
use Rattle.book_top.proofs.Listing.{ListsOn, lists_behind, element_ok, element_small, list_small, arguments_small, constant_read}
use Rattle.book_top.proofs.build.+build.Goals as goal

pub build-returns-in_ok-range-in-Arrow-clause-continues : goal.build-returns-in_ok-range-in-Arrow-clause-continues
build-returns-in_ok-range-in-Arrow-clause-continues t c =
    continues_trans _ _ _ c.build.ensures.continues (continues_trans _ _ _ c.build_under.ensures.continues c.add-in-Arrow.ensures.continues)

pub build-returns-in_ok-range-in-All-clause-continues : goal.build-returns-in_ok-range-in-All-clause-continues
build-returns-in_ok-range-in-All-clause-continues t c =
    continues_trans _ _ _ c.build-in-All.ensures.continues (continues_trans _ _ _ c.build_under-in-All.ensures.continues c.add-in-All.ensures.continues)

pub build-returns-in_ok-body-in-Fun-clause-continues : goal.build-returns-in_ok-body-in-Fun-clause-continues
build-returns-in_ok-body-in-Fun-clause-continues t c =
    continues_trans _ _ _ c.build-in-Fun.ensures.continues (continues_trans _ _ _ c.build_under-in-Fun.ensures.continues c.add-in-Fun.ensures.continues)

pub build-returns-in-Ok-Var-clause-built : goal.build-returns-in-Ok-Var-clause-built
build-returns-in-Ok-Var-clause-built t c =
    let s = c.args.scope.now in
    let names = names_of (env c.args.theory.now) in
    let i = c.in-Ok-Var.i in
    let is : c.look_up.result ≡ Ok (stands.Var i) = cc in
    let items = c.add-in-Ok-Var.new.self.items in
    let path = name_read s names c.args.tree c.in-Name.name c.as_bytes.result.now (Ok (stands.Var i)) c.in-Name.is c.as_bytes.ensures.value
    (ap (named c.args.tree.span c.as_bytes.result.now) (sym is ∙ c.look_up.ensures.found)) in
    built_as items (One (read (tree_of s names (view c.args.tree)))) (One (spec.Var i)) c.add-in-Ok-Var.result (ap (λ r. One (read r)) path)
    (added items (One (spec.Var i)) c.add-in-Ok-Var.result c.add-in-Ok-Var.ensures.tree c.add-in-Ok-Var.ensures.small c.add-in-Ok-Var.ensures.high)

pub build-alone-requires : goal.build-alone-requires
build-alone-requires t c =
    let s = c.args.scope.now in
    let is = c.in-Ok-Const.is ∙ ap (λ f. Ok f) c.in-Ok-Const.field-0-is in
    let P : Result Found ScopeFault → Type 0 = λ r. IfOk r (AreOpen s) in
    subst P is c.look_up.ensures.few

pub build-returns-in-Ok-Const-clause-built : goal.build-returns-in-Ok-Const-clause-built
build-returns-in-Ok-Const-clause-built t c =
    let s = c.args.scope.now in
    let names = names_of (env c.args.theory.now) in
    let k = c.in-Ok-Const.k in
    let implied = c.in-Ok-Const.implied in
    let is = c.in-Ok-Const.is ∙ ap (λ f. Ok f) c.in-Ok-Const.field-0-is in
    let path = name_read s names c.args.tree c.in-Name.name c.as_bytes.result.now (Ok (stands.Const k implied)) c.in-Name.is c.as_bytes.ensures.value
    (ap (named c.args.tree.span c.as_bytes.result.now) (sym is ∙ c.look_up.ensures.found)) in
    built_as c.alone.new.theory.items (One (read (tree_of s names (view c.args.tree)))) (One (spec.Const k (implied_variables (variable_count s) implied))) c.alone.result
    (ap (λ r. One (read r)) path) c.alone.ensures.built

pub build-returns-in_err-function-in-Apply-clause-built : goal.build-returns-in_err-function-in-Apply-clause-built
build-returns-in_err-function-in-Apply-clause-built t c =
    let s = c.args.scope.now in
    let names = names_of (env c.args.theory.now) in
    part_stops c.build-in-Apply.new.theory.items (One (read (tree_of s names (view c.args.tree)))) (One (read (tree_of s names (view c.in-Apply.function))))
    c.in_err-function-in-Apply.field-0.0 c.from_residual-in_err-function-in-Apply.result c.in_err-function-in-Apply.ensures.built
    (λ h. function_read_small s names c.args.tree c.in-Apply.function c.in-Apply.arguments c.in-Apply.is c.requires.read h)
    c.from_residual-in_err-function-in-Apply.ensures.1

pub build-application_is_read-requires : goal.build-application_is_read-requires
build-application_is_read-requires t c =
    let s = c.args.scope.now in
    let names = names_of (env c.args.theory.now) in
    let us = c.in-Apply.arguments in
    let n = c.build-in-Apply.new in
    let f = c.in_ok-function-in-Apply in
    let tree = read (tree_of s names (view c.in-Apply.function)) in
    let stands = stands_tree n.theory.items f.function tree f.ensures.built.0 in
    let Small : spec.Tree → Type 0 = λ x. IsSmall (One x) in
    let whole =
    head_read s names c.args.tree c.in-Apply.function us c.in-Apply.is c.requires.read
    ∙ applied_moved s n.scope (env c.args.theory.now) (env n.theory) _ _ (views us.now) (sym f.ensures.same) (sym f.ensures.continues.adds.env) (sym stands) in
    record {
      marks = ap (λ x. length x.marks) f.ensures.same ∙ c.requires.marks ∙ ap length (sym f.ensures.continues.entries);
      function = stands_term n.theory.items f.function tree f.ensures.built.0;
      small = subst Small (sym stands) f.ensures.built.1;
      read = subst IsOk whole c.requires.read;
    }

pub build-returns-in_ok-function-in-Apply-clause-built : goal.build-returns-in_ok-function-in-Apply-clause-built
build-returns-in_ok-function-in-Apply-clause-built t c =
    let s = c.args.scope.now in
    let names = names_of (env c.args.theory.now) in
    let us = c.in-Apply.arguments in
    let n = c.build-in-Apply.new in
    let f = c.in_ok-function-in-Apply in
    let stands = stands_tree n.theory.items f.function (read (tree_of s names (view c.in-Apply.function))) f.ensures.built.0 in
    built_as c.apply.new.theory.items (One (read (tree_of s names (view c.args.tree)))) (One (read (applied n.scope (names_of (env n.theory)) (tree_at n.theory.items f.function) (views us.now)))) c.apply.result
    (ap (λ r. One (read r))
    (head_read s names c.args.tree c.in-Apply.function us c.in-Apply.is c.requires.read
    ∙ applied_moved s n.scope (env c.args.theory.now) (env n.theory) _ _ (views us.now) (sym f.ensures.same) (sym f.ensures.continues.adds.env) (sym stands)))
    c.apply.ensures.built

pub apply-loop-argument-init : goal.apply-loop-argument-init
apply-loop-argument-init t c = (refl, continues_refl c.args.theory.now, c.requires.function, c.requires.small, refl)

pub apply-term_is_read-requires : goal.apply-term_is_read-requires
apply-term_is_read-requires t c =
    let s = c.args.scope.now in
    let old = c.args.theory.now in
    let l = c.loop-argument in
    let i = l.invariant in
    record {
      marks = ap (λ x. length x.marks) i.0 ∙ c.requires.marks ∙ ap length (sym i.1.entries);
      read = subst IsOk (tree_moved s l.scope (env old) (env l.theory) (view c.argument-item.result) (sym i.0) (sym i.1.adds.env))
          (argument_ok s (names_of (env old)) (tree_at old.items c.args.function) (tree_at l.theory.items l.term) c.args.arguments.now l.argument-index c.argument-item.result
          c.loop-argument-test.true c.argument-item.is i.4 c.requires.read);
    }

pub apply-returns-in_err-term-clause-continues : goal.apply-returns-in_err-term-clause-continues
apply-returns-in_err-term-clause-continues t c = continues_trans _ _ _ c.loop-argument.invariant.1 c.apply_to.ensures.continues

pub apply-returns-in_err-term-clause-built : goal.apply-returns-in_err-term-clause-built
apply-returns-in_err-term-clause-built t c =
    let s = c.args.scope.now in
    let old = c.args.theory.now in
    let names = names_of (env old) in
    let l = c.loop-argument in
    let i = l.invariant in
    let f = tree_at old.items c.args.function in
    let g = tree_at l.theory.items l.term in
    let a = c.argument-item.result in
    let same = tree_moved s l.scope (env old) (env l.theory) (view a) (sym i.0) (sym i.1.adds.env) in
    let Small : spec.Tree → Type 0 = λ x. IsSmall (One (spec.App g x)) in
    part_stops c.apply_to.new.theory.items (One (read (applied s names f (views c.args.arguments.now)))) (One (spec.App g (read (tree_of l.scope (names_of (env l.theory)) (view a)))))
    c.in_err-term.field-0.0 c.from_residual.result c.in_err-term.ensures.built
    (λ h. subst Small (ap read same) (argument_small s names f g c.args.arguments.now l.argument-index a c.loop-argument-test.true c.argument-item.is i.4 c.requires.read h))
    c.from_residual.ensures.1

pub apply-loop-argument-preserved : goal.apply-loop-argument-preserved
apply-loop-argument-preserved t c =
    let s = c.args.scope.now in
    let old = c.args.theory.now in
    let names = names_of (env old) in
    let l = c.loop-argument in
    let i = l.invariant in
    let f = tree_at old.items c.args.function in
    let g = tree_at l.theory.items l.term in
    let a = c.argument-item.result in
    let us = c.args.arguments.now in
    let new = c.apply_to.new.theory in
    let term = c.in_ok-term.term in
    let built = c.in_ok-term.ensures.built in
    let ok = argument_ok s names f g us l.argument-index a c.loop-argument-test.true c.argument-item.is i.4 c.requires.read in
    let same = tree_moved s l.scope (env old) (env l.theory) (view a) (sym i.0) (sym i.1.adds.env) in
    let whole = spec.App g (read (tree_of l.scope (names_of (env l.theory)) (view a))) in
    let stands : tree_at new.items term ≡ whole = stands_tree new.items term whole built.0 in
    let Small : spec.Tree → Type 0 = λ x. IsSmall (One x) in
    let On : spec.Tree → Type 0 = λ x. GoesOn s names f x us (l.argument-index + 1) in (
      c.in_ok-term.ensures.same ∙ i.0,
      continues_trans _ _ _ i.1 c.apply_to.ensures.continues,
      stands_term new.items term whole built.0,
      subst Small (sym stands) built.1,
      subst On (ap (λ x. spec.App g (read x)) same ∙ sym stands)
          (goes_behind s names f g (read (tree_of s names (view a))) us l.argument-index a c.loop-argument-test.true c.argument-item.is i.4 (ok_read (tree_of s names (view a)) ok)),
    )

pub build-instance_is_read-requires : goal.build-instance_is_read-requires
build-instance_is_read-requires t c =
    let s = c.args.scope.now in
    let names = names_of (env c.args.theory.now) in
    let us = c.in-Inst.arguments in
    let k = c.in-Ok-Const-look_up.k in
    let n = c.in-Ok-Const-look_up.implied in
    let is = c.in-Ok-Const-look_up.is ∙ ap (λ f. Ok f) c.in-Ok-Const-look_up.field-0-is in
    let P : Result Found ScopeFault → Type 0 = λ r. IfOk r (AreOpen s) in
    let path = inst_read s names c.args.tree c.in-Inst.name us c.as_bytes-in-Inst.result.now c.given.result (Ok (stands.Const k n)) c.in-Inst.is c.as_bytes-in-Inst.ensures.value c.given.ensures
    (ap (named c.args.tree.span c.as_bytes-in-Inst.result.now) (sym is ∙ c.look_up-in-Inst.ensures.found)) in
    record {
      marks = c.requires.marks;
      few = subst P is c.look_up-in-Inst.ensures.few;
      read = ok_first (listed s names (implied_variables (variable_count s) n) (views us.now)) (λ ts. Ok (spec.Const k ts)) (subst IsOk path c.requires.read);
    }

pub build-unreachable-requires-in-Err-look_up : goal.build-unreachable-requires-in-Err-look_up
build-unreachable-requires-in-Err-look_up t c =
    let s = c.args.scope.now in
    let names = names_of (env c.args.theory.now) in
    let n = c.as_bytes-in-Inst.result.now in
    let path = inst_read s names c.args.tree c.in-Inst.name c.in-Inst.arguments n c.given.result (named c.args.tree.span n (Err c.in-Err-look_up.field-0)) c.in-Inst.is c.as_bytes-in-Inst.ensures.value
    c.given.ensures (ap (named c.args.tree.span n) (sym c.in-Err-look_up.is ∙ c.look_up-in-Inst.ensures.found)) in
    let ok = subst IsOk path c.requires.read in
    cc

pub build-returns-in-Ok-Const-look_up-clause-built : goal.build-returns-in-Ok-Const-look_up-clause-built
build-returns-in-Ok-Const-look_up-clause-built t c =
    let s = c.args.scope.now in
    let names = names_of (env c.args.theory.now) in
    let us = c.in-Inst.arguments in
    let k = c.in-Ok-Const-look_up.k in
    let n = c.in-Ok-Const-look_up.implied in
    let is = c.in-Ok-Const-look_up.is ∙ ap (λ f. Ok f) c.in-Ok-Const-look_up.field-0-is in
    let all = listed s names (implied_variables (variable_count s) n) (views us.now) in
    let path = inst_read s names c.args.tree c.in-Inst.name us c.as_bytes-in-Inst.result.now c.given.result (Ok (stands.Const k n)) c.in-Inst.is c.as_bytes-in-Inst.ensures.value c.given.ensures
    (ap (named c.args.tree.span c.as_bytes-in-Inst.result.now) (sym is ∙ c.look_up-in-Inst.ensures.found)) in
    built_as c.instance.new.theory.items (One (read (tree_of s names (view c.args.tree)))) (One (spec.Const k (read_list all))) c.instance.result
    (ap (λ r. One (read r)) path ∙ ap One (constant_read k all c.instance_is_read.ensures.read))
    c.instance.ensures.built

pub instance-returns-in_err-first-clause-built : goal.instance-returns-in_err-first-clause-built
instance-returns-in_err-first-clause-built t c =
    let s = c.args.scope.now in
    let names = names_of (env c.args.theory.now) in
    let us = views c.args.arguments.now in
    let first = implied_variables (variable_count s) c.args.implied in
    let all = read_list (listed s names first us) in
    part_stops c.implied_list.new.theory.items (One (spec.Const c.args.entry all)) (Many first) c.in_err-first.field-0.0 c.from_residual.result c.in_err-first.ensures.built
    (λ h. list_small s names first us c.requires.read (arguments_small c.args.entry all h))
    c.from_residual.ensures.1

pub instance-returns-clause-continues : goal.instance-returns-clause-continues
instance-returns-clause-continues t c = continues_trans _ _ _ c.implied_list.ensures.continues (continues_trans _ _ _ c.list_on.ensures.continues c.add.ensures.continues)

pub list_on-returns-in_err-list-clause-continues : goal.list_on-returns-in_err-list-clause-continues
list_on-returns-in_err-list-clause-continues t c = continues_trans _ _ _ c.loop-element.invariant.1 c.list_more.ensures.continues

pub list_on-returns-in_err-list-clause-built : goal.list_on-returns-in_err-list-clause-built
list_on-returns-in_err-list-clause-built t c =
    let s = c.args.scope.now in
    let old = c.args.theory.now in
    let names = names_of (env old) in
    let l = c.loop-element in
    let i = l.invariant in
    let ts = list_at old.items c.args.first in
    let vs = list_at l.theory.items l.list in
    let a = c.element-item.result in
    let same = tree_moved s l.scope (env old) (env l.theory) (view a) (sym i.0) (sym i.1.adds.env) in
    let Small : spec.Tree → Type 0 = λ x. IsSmall (Many (vs ▸ x)) in
    part_stops c.list_more.new.theory.items (Many (read_list (listed s names ts (views c.args.arguments.now)))) (Many (vs ▸ read (tree_of l.scope (names_of (env l.theory)) (view a))))
    c.in_err-list.field-0.0 c.from_residual.result c.in_err-list.ensures.built
    (λ h. subst Small (ap read same) (element_small s names ts vs c.args.arguments.now l.element-index a c.loop-element-test.true c.element-item.is i.4 c.requires.read h))
    c.from_residual.ensures.1

pub list_on-loop-element-preserved : goal.list_on-loop-element-preserved
list_on-loop-element-preserved t c =
    let s = c.args.scope.now in
    let old = c.args.theory.now in
    let names = names_of (env old) in
    let l = c.loop-element in
    let i = l.invariant in
    let ts = list_at old.items c.args.first in
    let vs = list_at l.theory.items l.list in
    let a = c.element-item.result in
    let us = c.args.arguments.now in
    let new = c.list_more.new.theory in
    let list = c.in_ok-list.list in
    let built = c.in_ok-list.ensures.built in
    let ok = element_ok s names ts vs us l.element-index a c.loop-element-test.true c.element-item.is i.4 c.requires.read in
    let same = tree_moved s l.scope (env old) (env l.theory) (view a) (sym i.0) (sym i.1.adds.env) in
    let whole = vs ▸ read (tree_of l.scope (names_of (env l.theory)) (view a)) in
    let stands : list_at new.items list ≡ whole = list_is new.items list whole built.0 in
    let Small : spec.Trees → Type 0 = λ x. IsSmall (Many x) in
    let On : spec.Trees → Type 0 = λ x. ListsOn s names ts x us (l.element-index + 1) in (
      c.in_ok-list.ensures.same ∙ i.0,
      continues_trans _ _ _ i.1 c.list_more.ensures.continues,
      stands_list new.items list whole built.0,
      subst Small (sym stands) built.1,
      subst On (ap (λ x. vs ▸ read x) same ∙ sym stands)
          (lists_behind s names ts vs (read (tree_of s names (view a))) us l.element-index a c.loop-element-test.true c.element-item.is i.4 (ok_read (tree_of s names (view a)) ok)),
    )

pub build-returns-in_err-range-in-Arrow-clause-continues : goal.build-returns-in_err-range-in-Arrow-clause-continues
build-returns-in_err-range-in-Arrow-clause-continues t c = continues_trans _ _ _ c.build.ensures.continues c.build_under.ensures.continues

pub build-returns-in_err-range-in-All-clause-continues : goal.build-returns-in_err-range-in-All-clause-continues
build-returns-in_err-range-in-All-clause-continues t c = continues_trans _ _ _ c.build-in-All.ensures.continues c.build_under-in-All.ensures.continues

pub build-returns-in_err-body-in-Fun-clause-continues : goal.build-returns-in_err-body-in-Fun-clause-continues
build-returns-in_err-body-in-Fun-clause-continues t c = continues_trans _ _ _ c.build-in-Fun.ensures.continues c.build_under-in-Fun.ensures.continues

pub build-returns-in_ok-function-in-Apply-clause-continues : goal.build-returns-in_ok-function-in-Apply-clause-continues
build-returns-in_ok-function-in-Apply-clause-continues t c = continues_trans _ _ _ c.build-in-Apply.ensures.continues c.apply.ensures.continues

pub apply_to-returns-clause-continues : goal.apply_to-returns-clause-continues
apply_to-returns-clause-continues t c = continues_trans _ _ _ c.build.ensures.continues c.add.ensures.continues

pub list_more-returns-clause-continues : goal.list_more-returns-clause-continues
list_more-returns-clause-continues t c = continues_trans _ _ _ c.build.ensures.continues c.add.ensures.continues

pub instance-returns-in_err-all-clause-continues : goal.instance-returns-in_err-all-clause-continues
instance-returns-in_err-all-clause-continues t c = continues_trans _ _ _ c.implied_list.ensures.continues c.list_on.ensures.continues

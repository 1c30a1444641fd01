use Rattle.std.proofs.Common.{◌≡◌, ◌<◌, ◌≤◌, true, false, length, sym, ap, ◌∙◌, arith}
use Rattle.std.specs.List.{list_any}
use Rattle.std.specs.Str.{bytes_eq}
use Rattle.fb_scope.specs.State.{flag_fault}
use Rattle.fb_scope.proofs.Flags.{taken, fits, many}
use Rattle.fb_scope.proofs.scope.Scope.flag_fault.Goals as goal

pub returns-then-has_flag : goal.returns-then-has_flag
returns-then-has_flag c =
    let has : list_any (λ f. bytes_eq c.args.name.now f.name) c.self.inside.flags.items ≡ true = rw c.deref.ensures.value at (sym c.has_flag.ensures ∙ c.if-has_flag.true) in
    sym (taken c.args.name.now c.self.inside.flags.items has) ∙ ap (λ s. flag_fault c.args.name.now s.flags) c.self.view_is

pub returns-then-len-lt-MOST_FLAGS : goal.returns-then-len-lt-MOST_FLAGS
returns-then-len-lt-MOST_FLAGS c =
    let has : list_any (λ f. bytes_eq c.args.name.now f.name) c.self.inside.flags.items ≡ false = rw c.deref.ensures.value at (sym c.has_flag.ensures ∙ c.if-has_flag.false) in
    let few : length c.self.inside.flags.items < 64 = omega arith in
    sym (fits c.args.name.now c.self.inside.flags.items has few) ∙ ap (λ s. flag_fault c.args.name.now s.flags) c.self.view_is

pub returns-else-len-lt-MOST_FLAGS : goal.returns-else-len-lt-MOST_FLAGS
returns-else-len-lt-MOST_FLAGS c =
    let has : list_any (λ f. bytes_eq c.args.name.now f.name) c.self.inside.flags.items ≡ false = rw c.deref.ensures.value at (sym c.has_flag.ensures ∙ c.if-has_flag.false) in
    let lots : 64 ≤ length c.self.inside.flags.items = omega arith in
    sym (many c.args.name.now c.self.inside.flags.items has lots) ∙ ap (λ s. flag_fault c.args.name.now s.flags) c.self.view_is

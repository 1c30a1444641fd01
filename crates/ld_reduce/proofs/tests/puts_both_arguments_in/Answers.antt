use Rattle.ld_reduce.proofs.tests.puts_both_arguments_in.Goals as goal

pub sample_instance-requires-clause-none : goal.sample_instance-requires-clause-none
sample_instance-requires-clause-none g c = c.new-env.ensures

pub sample_instance-requires-clause-no_records : goal.sample_instance-requires-clause-no_records
sample_instance-requires-clause-no_records g c = c.new-deriv.ensures.none

pub unfold-requires-clause-sound : goal.unfold-requires-clause-sound
unfold-requires-clause-sound g c = c.in_ok-term.ensures.sound

pub unfold-requires-clause-env : goal.unfold-requires-clause-env
unfold-requires-clause-env g c = c.in_ok-term.ensures.env

pub unfold-requires-clause-live : goal.unfold-requires-clause-live
unfold-requires-clause-live g c = c.in_ok-term.ensures.live

pub unfold-requires-clause-term : goal.unfold-requires-clause-term
unfold-requires-clause-term g c = c.in_ok-term.ensures.term

pub unfold-requires-clause-named : goal.unfold-requires-clause-named
unfold-requires-clause-named g c = c.in_ok-term.ensures.named

pub unfold-requires-clause-head : goal.unfold-requires-clause-head
unfold-requires-clause-head g c = c.in_ok-term.ensures.head

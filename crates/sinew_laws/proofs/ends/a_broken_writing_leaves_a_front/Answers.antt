use Rattle.std.proofs.Common.{⊎_elim}
use Rattle.sinew_laws.proofs.EndLemmas.{front_of_done, front_of_refused}
use Rattle.sinew_laws.proofs.ends.a_broken_writing_leaves_a_front.Goals as goal

pub returns : goal.returns
returns c = λ left left_one left_other taken taken_one taken_other one other broken whole. ⊎_elim
    (λ done. front_of_done c.a_script_has_one_serial_run.ensures left left_one left_other taken taken_one taken_other one other broken done)
    (λ refused. front_of_refused left left_one left_other taken taken_one taken_other one other broken refused)
    whole

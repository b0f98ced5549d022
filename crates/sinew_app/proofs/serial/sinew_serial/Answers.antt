use Rattle.std.proofs.Common.{Err, ap}
use Rattle.sinew_app.specs.declared.input_fault.InputFault.{InputFault}
use Rattle.sinew_app.proofs.Ends.{broken_printing, refused, broken_refusal, decided}
use Rattle.sinew_app.proofs.serial.sinew_serial.Goals as goal

pub returns-in-Ok-clause-write : goal.returns-in-Ok-clause-write
returns-in-Ok-clause-write g c =
    broken_printing c.write_run.result _ _ _ _ c.in-Ok.script c.write_run.new.store.commits c.after.result
    c.after.ensures.exact c.in-Ok.ensures.ok c.write_run.ensures.ok

pub returns-in-Err-Bad-clause-script : goal.returns-in-Err-Bad-clause-script
returns-in-Err-Bad-clause-script g c =
    let gave = c.in-Err-Bad.ensures.bad c.in-Err-Bad.fault (ap (λ (e : InputFault). Err e) c.in-Err-Bad.field-0-is) in
    refused c.write_refusal.result _ _ _ _ c.in-Err-Bad.fault c.args.store.now.commits c.after-in-Err-Bad.result
    c.after-in-Err-Bad.ensures.exact gave c.write_refusal.ensures.ok c.requires

pub returns-in-Err-Bad-clause-write : goal.returns-in-Err-Bad-clause-write
returns-in-Err-Bad-clause-write g c =
    let gave = c.in-Err-Bad.ensures.bad c.in-Err-Bad.fault (ap (λ (e : InputFault). Err e) c.in-Err-Bad.field-0-is) in
    broken_refusal c.write_refusal.result _ _ _ _ c.in-Err-Bad.fault c.args.store.now.commits c.after-in-Err-Bad.result
    c.after-in-Err-Bad.ensures.exact gave c.write_refusal.ensures.ok c.requires

pub returns-in-Err-Bad-clause-complete : goal.returns-in-Err-Bad-clause-complete
returns-in-Err-Bad-clause-complete g c input told calm_source calm =
    let gave = c.in-Err-Bad.ensures.bad c.in-Err-Bad.fault (ap (λ (e : InputFault). Err e) c.in-Err-Bad.field-0-is) in
    decided c.write_refusal.result input _ _ c.in-Err-Bad.fault _ _ c.after-in-Err-Bad.result
    c.after-in-Err-Bad.ensures.exact gave c.write_refusal.ensures.cause told calm

use Rattle.std.proofs.Common.{◌≡◌, List, Result, Ok, Err, IfOk, IfErr, sym, subst, arith}
use Rattle.script_reader.specs.declared.line.Line.{Line}
use Rattle.script_reader.specs.declared.script_fault.ScriptFault.{ScriptFault}
use Rattle.script_reader.specs.declared.script_read_fault.ScriptReadFault as fault
use Rattle.script_reader.proofs.Progress.{script_of_split}
use Rattle.script_reader.proofs.reading.read_script.Goals as goal

pub returns : goal.returns
returns c =
    let is = script_of_split c.args.bytes.now c.without_end.result.now c.without_end.ensures.exact (omega arith) in
    record {
      ok = subst (λ (s : Result (List Line) ScriptFault). IfOk c.read_pieces.result (λ lines. s ≡ Ok lines)) (sym is) c.read_pieces.ensures.ok;
      bad = subst (λ (s : Result (List Line) ScriptFault). IfErr c.read_pieces.result (λ e. (f : ScriptFault) → e ≡ fault.TheVariants.Bad f → s ≡ Err f)) (sym is) c.read_pieces.ensures.bad;
    }

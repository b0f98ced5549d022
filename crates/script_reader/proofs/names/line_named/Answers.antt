use Rattle.std.proofs.Common.{sym, arith}
use Rattle.std.proofs.lemmas.List.Sums.{prefix_len-le-length}
use Rattle.script_reader.specs.Pieces.{is_before_point}
use Rattle.script_reader.proofs.Numbers.{session_known, place_from_one}
use Rattle.script_reader.proofs.names.line_named.Goals as goal

pub split_at-requires : goal.split_at-requires
split_at-requires c = omega (arith, c.point_at.ensures.exact, prefix_len-le-length is_before_point c.as_bytes-word.result.now)

pub line_at-requires-clause-known : goal.line_at-requires-clause-known
line_at-requires-clause-known c = session_known c.split_at.result.0.now c.in_ok-session.session (sym c.in_ok-session.ensures.exact)

pub line_at-requires-clause-first : goal.line_at-requires-clause-first
line_at-requires-clause-first c = place_from_one c.in_ok-place.place.now c.in_ok-place-2.place (sym c.in_ok-place-2.ensures.exact)

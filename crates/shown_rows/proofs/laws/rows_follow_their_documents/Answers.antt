use Rattle.shown_rows.proofs.Followed.{rows-follow}
use Rattle.shown_rows.proofs.laws.rows_follow_their_documents.Goals as goal

pub returns : goal.returns
returns c = record { law = rows-follow }

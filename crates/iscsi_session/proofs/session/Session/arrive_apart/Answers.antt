use Rattle.iscsi_session.proofs.session.Session.arrive_apart.Goals as goal

pub returns-clause-items : goal.returns-clause-items
returns-clause-items over c = λ o index t taken h. rw c.read.ensures at (c.arrive.ensures.items o index t taken h)

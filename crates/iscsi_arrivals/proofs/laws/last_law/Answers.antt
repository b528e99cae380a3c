use Rattle.iscsi_arrivals.proofs.LastLemmas.{last_none, last_passes, last_fails, last_unarrived, last_under_way, none_under_way}
use Rattle.iscsi_arrivals.proofs.laws.last_law.Goals as goal

pub returns-clause-none : goal.returns-clause-none
returns-clause-none c = last_none

pub returns-clause-passes : goal.returns-clause-passes
returns-clause-passes c = last_passes

pub returns-clause-fails : goal.returns-clause-fails
returns-clause-fails c = last_fails

pub returns-clause-unarrived : goal.returns-clause-unarrived
returns-clause-unarrived c = last_unarrived

pub returns-clause-under_way : goal.returns-clause-under_way
returns-clause-under_way c = λ o test l place up. last_under_way test o l place up

pub returns-clause-quiet : goal.returns-clause-quiet
returns-clause-quiet c = λ o test l up. none_under_way test o l up

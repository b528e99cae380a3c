use Rattle.std.proofs.Common.{◌∙◌, ◌≤◌, sym, arith}
use Rattle.iscsi_lane.specs.Standings.{NOBODY}
use Rattle.iscsi_lane.proofs.LaneLemmas.{found_left, found_none, found_past, found_undue, found_zero, told_else, told_there}
use Rattle.iscsi_lane.proofs.settling.find.Goals as goal

pub returns-then-command-lt1 : goal.returns-then-command-lt1
returns-then-command-lt1 c = found_zero c.args.log.now c.args.commands c.requires c.known.ensures.apart c.args.command c.if-command-lt1.true

pub returns-then-commands-command : goal.returns-then-commands-command
returns-then-commands-command c = found_past c.args.log.now c.args.commands c.requires c.known.ensures.apart c.args.command c.if-commands-command.true

pub returns-then-list_of-ne-LOG : goal.returns-then-list_of-ne-LOG
returns-then-list_of-ne-LOG c =
    let log = c.args.log.now in
    found_none log c.args.commands c.requires c.known.ensures.apart c.args.command
    (told_else log c.args.commands c.requires c.known.ensures.apart c.args.command 2 c.list_of.result (let a = c.requires.lists in omega (arith, a)) c.list_of.ensures c.if-list_of-ne-LOG.true)

pub returns-in-Left : goal.returns-in-Left
returns-in-Left c =
    let log = c.args.log.now in
    let within : c.args.command ≤ log.room = let a = c.requires.most in let b = c.if-commands-command.false in omega (arith, a, b) in
    found_left log c.args.commands c.requires c.known.ensures.apart c.args.command c.in-Left.left
    (told_there log c.args.commands c.requires c.known.ensures.apart c.args.command 2 c.list_of.result c.if-command-lt1.false within c.list_of.ensures c.if-list_of-ne-LOG.false)
    (sym (c.at.ensures NOBODY) ∙ c.in-Left.is)

pub returns-in-Undue : goal.returns-in-Undue
returns-in-Undue c =
    let log = c.args.log.now in
    let within : c.args.command ≤ log.room = let a = c.requires.most in let b = c.if-commands-command.false in omega (arith, a, b) in
    absurd (found_undue log c.args.commands c.requires c.known.ensures.apart c.args.command c.in-Undue.field-0 c.if-commands-command.false
    (told_there log c.args.commands c.requires c.known.ensures.apart c.args.command 2 c.list_of.result c.if-command-lt1.false within c.list_of.ensures c.if-list_of-ne-LOG.false)
    (sym (c.at.ensures NOBODY) ∙ c.in-Undue.is))

use Rattle.iscsi_session.proofs.Names.{◌≡◌, ◌==◌, ◌∙◌, ⊎_elim, cond, Bool, true, false, ℕ, refl, ap, sym, arith, false≢true, eqb-true, Request, opcode, Opcode, NopOut, ScsiCommand, TaskManagement, Text, DataOut, Snack, opcode_named, command_deed, Core, facts_by, deed_by, nat_tests}
use Rattle.iscsi_wire.specs.declared.opcode.Opcode.TheVariants.{Logout, Unknown}
use Rattle.iscsi_session.proofs.session.Session.decide.Goals as goal

-- one that has the table of the SCSI Command
abbrev is_other : Opcode → Bool
is_other ScsiCommand = true
is_other DataOut = true
is_other Snack = true
is_other Unknown = true
is_other _ = false

abbrev named : ℕ → Opcode
named n = cond (n == 0x00) NopOut (cond (n == 0x01) ScsiCommand (cond (n == 0x02) TaskManagement (cond (n == 0x04) Text (cond (n == 0x05) DataOut (cond (n == 0x06) Logout (cond (n == 0x10) Snack Unknown))))))

apart : (r : Request) (n : ℕ) → is_other (named n) ≡ false → is_other (opcode_named r) ≡ true → (opcode r == n) ≡ false
apart r n none other = grind (arith, nat_tests, false≢true, eqb-true)

by_command : (s : Core) (r : Request) → is_other (opcode_named r) ≡ true → command_deed (facts_by s r) r ≡ deed_by s r
by_command s r other = rw (apart r 0x02 refl other, apart r 0x06 refl other, apart r 0x00 refl other, apart r 0x04 refl other)

pub returns-in-ScsiCommand : goal.returns-in-ScsiCommand
returns-in-ScsiCommand c =
    let other : is_other c.of.result ≡ true = ⊎_elim (ap is_other) (⊎_elim (ap is_other) (⊎_elim (ap is_other) (ap is_other))) c.in-ScsiCommand.is in
    c.decide_command.ensures ∙ by_command c.args.self.now c.args.request.now (ap is_other (sym c.of.ensures) ∙ other)

use Rattle.std.proofs.Common.{◌≡◌, ℕ, ◌+◌, ◌-◌, ◌≤◌, length, take, All, refl, sym, arith, subst}
use Rattle.std.proofs.lemmas.List.{length-take}
use Rattle.std.proofs.lemmas.List.Elements.{All-push}
use Rattle.iscsi_rules.specs.declared.effect.Effect.TheVariants.{Send}
use Rattle.iscsi_rules.specs.declared.effect.Numbers.{Numbers}
use Rattle.iscsi_report.specs.Lines.{effect_line}
use Rattle.iscsi_report.specs.Filled.{numbers_from_end}
use Rattle.iscsi_report.proofs.FilledLemmas.{written_to, place_fits, reply_more}
use Rattle.iscsi_report.proofs.report.write_reply.Goals as goal
use Rattle.iscsi_report.proofs.report.write_reply.Goals.{After-write_made_send-end}

abbrev none : Numbers
none = record { exp = 0; max = 0 }

-- its numbers stand within the line
fits : (c : After-write_made_send-end) → c.args.at + numbers_from_end c.args.reply.now ≤ c.write_made_send-end.result
fits c =
    place_fits c.write_made_send-end.new.line c.args.line.now c.args.at c.write_made_send-end.result (Send c.args.conn c.args.stat_sn c.args.reply.now) c.args.conn c.args.stat_sn c.args.reply.now none
    c.write_made_send-end.ensures.written refl (omega (arith, c.write_made_send-end.ensures.end, c.write_made_send-end.auto.line, c.requires.room)) (omega (arith, c.requires.room))

-- the line has a length
size : (c : After-write_made_send-end) → c.write_made_send-end.result ≡ c.args.at + length (effect_line (Send c.args.conn c.args.stat_sn c.args.reply.now) none)
size c =
    written_to c.write_made_send-end.new.line c.args.line.now (effect_line (Send c.args.conn c.args.stat_sn c.args.reply.now) none) c.args.at c.write_made_send-end.result c.write_made_send-end.ensures.written
    (omega (arith, c.write_made_send-end.ensures.end, c.write_made_send-end.auto.line, c.requires.room)) (omega (arith, c.requires.room))

pub overflow_sub-end : goal.overflow_sub-end
overflow_sub-end c = omega (arith, fits (goal.at.overflow_sub-end c).After-write_made_send-end, c.from_end.ensures)

pub returns-in-Ok : goal.returns-in-Ok
returns-in-Ok c =
    let here = (goal.at.returns-in-Ok c).After-write_made_send-end in
    let end : ℕ = c.write_made_send-end.result in
    let place : ℕ = end - c.from_end.result in
    let front : length (take c.args.at c.args.line.now) ≡ c.args.at = omega (arith, length-take c.args.at c.args.line.now, c.requires.room) in
    let whole : length (take end c.write_made_send-end.new.line) ≡ end = omega (arith, length-take end c.write_made_send-end.new.line, c.write_made_send-end.ensures.end, c.write_made_send-end.auto.line, c.requires.room) in
    record {
      end = (omega (arith, size here), c.write_made_send-end.ensures.end);
      places = subst (All (λ p. p + 16 ≤ end)) (sym c.in-Ok.ensures.items)
          (All-push (λ p. p + 16 ≤ end) c.args.places.now.items place (λ k d l. omega (arith, c.requires.places k d l, fits here)) (omega (arith, c.from_end.ensures, fits here)));
      lines = λ n text es lines. rw c.in-Ok.ensures.items (reply_more n none c.args.places.now.items (take c.args.at c.args.line.now) (take end c.write_made_send-end.new.line) text es c.args.conn c.args.stat_sn place c.args.reply.now
          (subst (λ m. All (λ p. p + 16 ≤ m) c.args.places.now.items) (sym front) c.requires.places) lines
          c.write_made_send-end.ensures.written (omega (arith, whole, c.from_end.ensures, fits here)));
      err = tt;
    }

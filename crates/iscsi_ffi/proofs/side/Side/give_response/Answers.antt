use Rattle.std.proofs.Common.{◌≡◌, ◌∙◌, ℕ, Option, Some, false, sym, ap, subst}
use Rattle.iscsi_ffi_steps.specs.Walk.{Doing}
use Rattle.iscsi_ffi_steps.specs.Steps.{Going, going}
use Rattle.iscsi_ffi.specs.Answers.{given_of}
use Rattle.iscsi_ffi.specs.Responses.{ResponseIsNext}
use Rattle.iscsi_ffi.specs.Standing.{Begun, Sided}
use Rattle.iscsi_ffi.specs.contracts.side.Side.{the_view}
use Rattle.iscsi_ffi.specs.declared.side.outgoing.Next.TheVariants.{Goes}
use Rattle.iscsi_ffi.proofs.StandLemmas.{set_desk}
use Rattle.iscsi_outbox.specs.promises.Responses.{handed_of}
use Rattle.iscsi_outbox_steps.specs.declared.given.Given.{Given}
use Rattle.iscsi_outbox_steps.specs.declared.given.Given.TheVariants.{Hands}
use Rattle.iscsi_outbox_steps.specs.State.{place_of}
use Rattle.iscsi_outbox_steps.specs.Steps.{given}
use Rattle.iscsi_ffi_desk.specs.Calls.{cookie_handed, handed_out, is_blocked}
use Rattle.iscsi_ffi.proofs.CallLemmas.{hands_going, hands_says, handed_limits}
use Rattle.iscsi_ffi.proofs.side.Side.give_response.Goals as goal

pub returns-clause-stands : goal.returns-clause-stands
returns-clause-stands c = λ i s b.
    let conn = c.args.conn in let cid = c.args.cid in
    let P : Sided → Type 0 = λ v. Begun i v (going s) in
    let here : Begun i (the_view c.self.inside) (going s) = subst P (sym c.self.view_is) b in
    let R : Sided → Type 0 = λ v. ResponseIsNext cid conn c.args.response v in
    let is : ResponseIsNext cid conn c.args.response (the_view c.self.inside) = subst R (sym c.self.view_is) c.requires in
    let at : place_of s.state.outbox cid ≡ Some conn = ap (λ (d : Doing). place_of d.state.outbox cid) (sym here.stands.doing) ∙ is.place in
    let may : is_blocked i.unwritten conn s.state ≡ false =
    ap (λ n. is_blocked n conn s.state) (sym here.stands.unwritten) ∙ ap (λ (d : Doing). is_blocked c.self.inside.unwritten conn d.state) (sym here.stands.doing) ∙ is.may in
    let h = handed_of c.next_response.result.0 in
    let hands : given cid s.state.outbox ≡ Hands h = ap (λ (d : Doing). given cid d.state.outbox) (sym here.stands.doing) ∙ c.next_response.ensures.answer cid is.place in
    let Q : Going → Type 0 = λ g. Begun i (record (the_view c.self.inside) { desk = c.next_response.new.self }) g in
    subst Q (sym (hands_going i cid conn h s at may hands))
    (set_desk i (the_view c.self.inside) (going s) c.next_response.new.self (handed_out cid conn (going s).doing) here (c.next_response.ensures.state cid is.place ∙ ap (handed_out cid conn) here.stands.doing) (handed_limits cid conn (going s).doing))

pub returns-clause-answer : goal.returns-clause-answer
returns-clause-answer c = λ i s b.
    let conn = c.args.conn in let cid = c.args.cid in
    let P : Sided → Type 0 = λ v. Begun i v (going s) in
    let here : Begun i (the_view c.self.inside) (going s) = subst P (sym c.self.view_is) b in
    let R : Sided → Type 0 = λ v. ResponseIsNext cid conn c.args.response v in
    let is : ResponseIsNext cid conn c.args.response (the_view c.self.inside) = subst R (sym c.self.view_is) c.requires in
    let at : place_of s.state.outbox cid ≡ Some conn = ap (λ (d : Doing). place_of d.state.outbox cid) (sym here.stands.doing) ∙ is.place in
    let may : is_blocked i.unwritten conn s.state ≡ false =
    ap (λ n. is_blocked n conn s.state) (sym here.stands.unwritten) ∙ ap (λ (d : Doing). is_blocked c.self.inside.unwritten conn d.state) (sym here.stands.doing) ∙ is.may in
    let h = handed_of c.next_response.result.0 in
    let hands : given cid s.state.outbox ≡ Hands h = ap (λ (d : Doing). given cid d.state.outbox) (sym here.stands.doing) ∙ c.next_response.ensures.answer cid is.place in
    ap (λ (o : Option ℕ). Goes h o) (c.next_response.ensures.cookie cid is.place
    ∙ ap (λ (d : Doing). cookie_handed conn (given cid d.state.outbox) d.state) here.stands.doing
    ∙ ap (λ (g : Given). cookie_handed conn g s.state) hands)
    ∙ sym (ap given_of (hands_says i cid conn h s at may hands))

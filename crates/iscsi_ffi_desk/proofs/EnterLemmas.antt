-- A command that entered is found by its ticket.
use Rattle.std.proofs.Common.{◌≡◌, ℕ, ◌<◌, ◌≤◌, ◌&&◌, cond, nat_le, nat_lt, Bool, true, false, List, [], ◌∷◌, ◌++◌, find, All, Option, Some, None, refl, ap, ◌∙◌, arith, eq-eqb}
use Rattle.std.specs.Option.{option_or}
use Rattle.std.proofs.lemmas.Bool.{false≢true, ltb-true, ne_eqb}
use Rattle.std.proofs.lemmas.List.Elements.{All-head, All-tail}
use Rattle.std.proofs.lemmas.List.Folds.{find-append}
use Rattle.iscsi_ffi_commands.specs.declared.command.Command.{Command}
use Rattle.iscsi_ffi_commands.specs.Commands.{AreKnown, Commands, entered, find_ticket, has_ticket, may_enter}

abbrev Low : ℕ → Command → Type 0
Low last c = c.ticket ≤ last

none_found : (n last : ℕ) (cs : List Command) → last < n → All (Low last) cs → find (has_ticket n) cs ≡ None
none_found n last [] late low = refl
none_found n last (c ∷ cs) late low =
    let here : c.ticket ≤ last = All-head (Low last) c cs low in
    ap (λ b. cond b (Some c) (find (has_ticket n) cs)) (ne_eqb c.ticket n (λ e. omega (arith, e, late, here)))
    ∙ none_found n last cs late (All-tail (Low last) c cs low)

pub entered_found : (c : Command) (v : Commands) → AreKnown v → v.last < c.ticket → find_ticket c.ticket (entered c v) ≡ Some c
entered_found c v k late =
    find-append (has_ticket c.ticket) v.items (c ∷ [])
    ∙ ap (λ (o : Option Command). option_or o (find (has_ticket c.ticket) (c ∷ []))) (none_found c.ticket v.last v.items late k.newest)
    ∙ ap (λ b. cond b (Some c) None) (eq-eqb c.ticket c.ticket refl)

first_holds : (n u l h a : Bool) → (n && u && l && h && a) ≡ true → n ≡ true
first_holds true u l h a is = refl
first_holds false u l h a is = absurd (false≢true is)

pub may_late : (c : Command) (v : Commands) → may_enter c v ≡ true → v.last < c.ticket
may_late c v may = ltb-true v.last c.ticket (first_holds (nat_lt v.last c.ticket) (nat_lt c.unit v.units) (nat_le 1 c.request) (nat_le c.request v.room) _ may)

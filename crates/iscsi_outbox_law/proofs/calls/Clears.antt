-- Other sessions are through with a unit.
use Rattle.std.proofs.Common.{◌≡◌, ℕ, ◌+◌, ◌-◌, ◌<◌, ◌==◌, ◌&&◌, ◌^◌, cond, Bool, true, false, List, [], ◌∷◌, ◌++◌, length, filter, count_by, refl, ap, sym, subst, ◌∙◌, arith}
use Rattle.std.proofs.lemmas.List.Folds.{list_any-append}
use Rattle.iscsi_rules.specs.rules.Settings.{are_distinct}
use Rattle.iscsi_arrivals.proofs.CountLemmas.{count-cons}
use Rattle.iscsi_outbox_rules.specs.promises.Room.{Fits}
use Rattle.iscsi_outbox_rules.specs.rules.Calls.{Opening}
use Rattle.iscsi_outbox_rules.specs.rules.Boxes.{Aim as RulesAim, AtTag, AtUnit, AtConns, Answer, Box}
use Rattle.iscsi_outbox_rules.specs.rules.Words.{contains, is_left}
use Rattle.iscsi_outbox_rules.specs.rules.Due.{settle as settle_box}
use Rattle.iscsi_outbox_rules.specs.rules.Run.{cleared as cleared_answers, waits_for_clear as waits_for_clear_box}
use Rattle.iscsi_outbox_state.specs.declared.lane.Aim.{Aim}
use Rattle.iscsi_outbox_state.specs.declared.lane.Aim.TheVariants.{Tag, Unit as OfUnit, Conn, Session, Nothing}
use Rattle.iscsi_outbox_state.specs.declared.lane.Undue.{Undue}
use Rattle.iscsi_outbox_state.specs.declared.lane.Standing.{Standing}
use Rattle.iscsi_outbox_state.specs.declared.lane.Standing.TheVariants.{Left as IsLeft, Undue as IsUndue}
use Rattle.iscsi_outbox_state.specs.Lane.{as_cleared, cleared, cleared_in, is_command, is_left as is_left_standing, waits_for_clear}
use Rattle.iscsi_outbox_steps.specs.State.{State}
use Rattle.iscsi_outbox_steps.specs.Steps.{cleared_of}
use Rattle.iscsi_tracked.specs.Tracked.{Tracked}
use Rattle.iscsi_outbox_law.specs.private.Pairs.{EachOf}
use Rattle.iscsi_outbox_law.specs.private.Lanes.{AreAnswers, IsAim, IsAnswer, is_aimed_at}
use Rattle.iscsi_outbox_law.specs.private.Sound.{IsSound}
use Rattle.iscsi_outbox_law.specs.private.Stands.{Stands}
use Rattle.iscsi_outbox_law.proofs.calls.Calm.{calm, room_there}
use Rattle.iscsi_outbox_law.proofs.queues.Settling.{IsCalm, answers_front, settle_stands}

unit_as : (unit : ℕ) (x : Aim) (y : RulesAim) → IsAim x y
    → (elim x as (λ (z : Aim). Bool) [ OfUnit u ↦ u == unit | Tag tag ↦ false | Conn conn ↦ false | Session ↦ false | Nothing ↦ false ])
    ≡ (elim y as (λ (z : RulesAim). Bool) [ AtUnit u ↦ u == unit | AtTag tag u ↦ false | AtConns ↦ false ])
unit_as unit (Tag tag) (AtTag t u) k = refl
unit_as unit (OfUnit v) (AtUnit u) k = ap (λ n. n == unit) k
unit_as unit (Conn conn) AtConns k = refl
unit_as unit Session AtConns k = refl
unit_as unit Nothing AtConns k = refl
unit_as unit x y k = absurd k

waits_as : (cids : List ℕ) (v : Tracked) (unit : ℕ) (before : List Standing) (a : Undue) (answer : Answer) → IsAnswer cids v before a answer → waits_for_clear unit a ≡ waits_for_clear_box unit answer
waits_as cids v unit before a answer k =
    ap (λ (w : Bool). w && (elim (a.aim) as (λ (z : Aim). Bool) [ OfUnit u ↦ u == unit | Tag tag ↦ false | Conn conn ↦ false | Session ↦ false | Nothing ↦ false ])) k.uncleared
    ∙ ap (λ (w : Bool). answer.uncleared && w) (unit_as unit (a.aim) (answer.aim) k.aim)

module _ (cids : List ℕ) (v : Tracked) (unit : ℕ) where
  answers_cleared : (before items : List Standing) (answers : List Answer) → AreAnswers cids v before items answers → AreAnswers cids v before (cleared_in unit items) (cleared_answers unit answers)
  answers_cleared before [] [] h = tt
  answers_cleared before [] (answer ∷ answers) h = absurd h
  answers_cleared before (IsLeft c ∷ items) answers h = answers_cleared (before ++ IsLeft c ∷ []) items answers h
  answers_cleared before (IsUndue a ∷ items) [] h = absurd h
  answers_cleared before (IsUndue a ∷ items) (answer ∷ answers) h =
      let rest = answers_cleared (before ++ IsUndue a ∷ []) items answers h.1 in
      subst (λ w. AreAnswers cids v before (cond w (IsUndue (as_cleared a) ∷ items) (IsUndue a ∷ cleared_in unit items)) (cond (waits_for_clear_box unit answer) (record answer { uncleared = false } ∷ answers) (answer ∷ cleared_answers unit answers)))
      (sym (waits_as cids v unit before a answer h.0))
      (elim (waits_for_clear_box unit answer) as (λ w. AreAnswers cids v before (cond w (IsUndue (as_cleared a) ∷ items) (IsUndue a ∷ cleared_in unit items)) (cond w (record answer { uncleared = false } ∷ answers) (answer ∷ cleared_answers unit answers))) [
        | true ↦ (
          record {
            pdu = h.0.pdu;
            sent = h.0.sent;
            conn = h.0.conn;
            aim = h.0.aim;
            takes = h.0.takes;
            fenced = h.0.fenced;
            numbered = h.0.numbered;
            ends = h.0.ends;
            ticket = h.0.ticket;
            uncleared = refl;
            scope = h.0.scope;
          },
          answers_front cids v (before ++ IsUndue a ∷ []) (before ++ IsUndue (as_cleared a) ∷ []) items answers
              (λ aim place. list_any-append (is_aimed_at aim place) before (IsUndue a ∷ []) ∙ sym (list_any-append (is_aimed_at aim place) before (IsUndue (as_cleared a) ∷ []))) h.1,
        )
        | false ↦ (h.0, rest)
      ])

  commands_cleared : (place : ℕ) (items : List Standing) → filter (is_command place) (cleared_in unit items) ≡ filter (is_command place) items
  commands_cleared place [] = refl
  commands_cleared place (IsLeft c ∷ items) = ap (λ xs. cond (c.command == place) (IsLeft c ∷ xs) xs) (commands_cleared place items)
  commands_cleared place (IsUndue a ∷ items) =
      let rest = commands_cleared place items in
      elim (waits_for_clear unit a) as (λ w. filter (is_command place) (cond w (IsUndue (as_cleared a) ∷ items) (IsUndue a ∷ cleared_in unit items)) ≡ filter (is_command place) items) [ true ↦ refl | false ↦ rest ]

  left_counted : (items : List Standing) → count_by is_left_standing (cleared_in unit items) ≡ count_by is_left_standing items
  left_counted [] = refl
  left_counted (IsLeft c ∷ items) = count-cons is_left_standing (IsLeft c) (cleared_in unit items) ∙ ap (λ n. 1 + n) (left_counted items) ∙ sym (count-cons is_left_standing (IsLeft c) items)
  left_counted (IsUndue a ∷ items) =
      let rest = left_counted items in
      elim (waits_for_clear unit a) as (λ w. count_by is_left_standing (cond w (IsUndue (as_cleared a) ∷ items) (IsUndue a ∷ cleared_in unit items)) ≡ count_by is_left_standing (IsUndue a ∷ items)) [
        | true ↦ count-cons is_left_standing (IsUndue (as_cleared a)) items ∙ sym (count-cons is_left_standing (IsUndue a) items)
        | false ↦ count-cons is_left_standing (IsUndue a) (cleared_in unit items) ∙ ap (λ n. 0 + n) rest ∙ sym (count-cons is_left_standing (IsUndue a) items)
      ]

as_many_cleared : (unit : ℕ) (answers : List Answer) → length (cleared_answers unit answers) ≡ length answers
as_many_cleared unit [] = refl
as_many_cleared unit (a ∷ answers) =
    let rest = as_many_cleared unit answers in
    elim (waits_for_clear_box unit a) as (λ w. length (cond w (record a { uncleared = false } ∷ answers) (a ∷ cleared_answers unit answers)) ≡ length (a ∷ answers)) [ true ↦ refl | false ↦ (let z : length (a ∷ cleared_answers unit answers) ≡ length (a ∷ answers) = omega (arith, rest) in z) ]

scopes_cleared : (b : Box) (unit : ℕ) (answers : List Answer) → EachOf (λ (a : Answer). (k : ℕ) → contains a.out.scope k ≡ true → is_left b k ≡ true) answers
    → EachOf (λ (a : Answer). (k : ℕ) → contains a.out.scope k ≡ true → is_left b k ≡ true) (cleared_answers unit answers)
scopes_cleared b unit [] h = tt
scopes_cleared b unit (a ∷ answers) h =
    let rest = scopes_cleared b unit answers h.1 in
    elim (waits_for_clear_box unit a) as (λ w. EachOf (λ (x : Answer). (k : ℕ) → contains x.out.scope k ≡ true → is_left b k ≡ true) (cond w (record a { uncleared = false } ∷ answers) (a ∷ cleared_answers unit answers))) [
      | true ↦ (h.0, h.1)
      | false ↦ (h.0, rest)
    ]

pub clears_stands : (o : Opening) (s : State) (b : Box) → Stands o s b → IsSound o b → are_distinct o.session.conns ≡ true → Fits o b → (unit : ℕ)
    → (settle_box o (record b { undue = cleared_answers unit b.undue })).time < 2 ^ 64 - 1 → Stands o (cleared_of unit s) (settle_box o (record b { undue = cleared_answers unit b.undue }))
clears_stands o s b h sound distinct fits unit timed =
    settle_stands o (record s { lane = cleared unit s.lane }) (record b { undue = cleared_answers unit b.undue }) cleared_now
    (let k : IsCalm o b b.undue = calm o s b h sound distinct in record { homes = record { ascending = k.homes.ascending; handed = k.homes.handed }; apart = k.apart; own = k.own; scopes = scopes_cleared b unit b.undue k.scopes })
    (let e = as_many_cleared unit b.undue in let f = room_there o s b h sound distinct fits in omega (arith, e, f)) timed
  where
    cleared_now : Stands o (record s { lane = cleared unit s.lane }) (record b { undue = cleared_answers unit b.undue })
    cleared_now = record {
      sizes = record { limits = h.sizes.limits; waits = h.sizes.waits; answers = h.sizes.answers; commands = h.sizes.commands; trails = h.sizes.trails };
      numbers = record { time = h.numbers.time; exp = h.numbers.exp; max = h.numbers.max; shown = h.numbers.shown; reached = h.numbers.reached; sent = h.numbers.sent };
      links = h.links;
      queues = h.queues;
      commands = h.commands;
      placed = h.placed;
      trails = h.trails;
      left = record { each = λ place. commands_cleared s.limits.cids s.tracked unit place s.lane.items ∙ h.left.each place; counted = left_counted s.limits.cids s.tracked unit s.lane.items ∙ h.left.counted };
      answers = answers_cleared s.limits.cids s.tracked unit [] s.lane.items b.undue h.answers;
      fence = h.fence;
    }

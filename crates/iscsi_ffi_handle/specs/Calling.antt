-- What a call of a handle comes to.
use Rattle.std.specs.Prelude.{◌≡◌, ℕ, true, false, List, Option, Some, None}
use Rattle.iscsi_ffi_rules.specs.rules.Calls.{Call, Nexts}
use Rattle.iscsi_ffi.specs.declared.answer.Answer.{Answer}
use Rattle.iscsi_ffi.specs.declared.answer.Answer.TheVariants.{ActionsWait, NotOpen, Done}
use Rattle.iscsi_ffi.specs.declared.side.outgoing.Next.{Next}
use Rattle.iscsi_ffi.specs.Calls.{Gives, Takes}
use Rattle.iscsi_ffi.specs.Standing.{Sided, is_waiting}
use Rattle.iscsi_ffi_handle.specs.declared.plain.PlainAction.{PlainAction}
use Rattle.iscsi_ffi_handle.specs.declared.plain.PlainPdu.{PlainPdu}
use Rattle.iscsi_ffi_handle.specs.declared.plain.PlainTold.{PlainTold}
use Rattle.iscsi_ffi_handle.specs.Bytes.{answer_by, buffer_after, pdu_after}
use Rattle.iscsi_ffi_handle.specs.Telling.{places_after, side_after, told_after}

-- what is inside the handle, the places for actions, and how many are told
pub record Shown : Type 0 where
  pub inside : Option Sided
  pub places : List PlainAction
  pub told : PlainTold

abbrev pub shown : Option Sided → List PlainAction → PlainTold → Shown
shown inside places told = record { inside = inside; places = places; told = told }

-- a side does something, and what it tells then is handed over, as much as has room
pub record HandsOver (Does : Sided → Sided → Answer → Type 0) (side : Sided) (old new : Shown) (answer : Answer) : Type 0 where
  pub after : Sided
  pub does : Does side after answer
  pub state : new ≡ shown (Some (side_after old.places after)) (places_after old.places after) (told_after old.places after)

-- a closed handle refuses it, and one of which actions wait; nothing changes then
pub record Called (Does : Sided → Sided → Answer → Type 0) (old new : Shown) (answer : Answer) : Type 0 where
  pub closed : old.inside ≡ None → (answer ≡ NotOpen) × (new ≡ old)
  pub waits : (side : Sided) → old.inside ≡ Some side → is_waiting side ≡ true → (answer ≡ ActionsWait) × (new ≡ old)
  pub takes : (side : Sided) → old.inside ≡ Some side → is_waiting side ≡ false → HandsOver Does side old new answer

-- the call of a side
abbrev pub Calls : Call → Shown → Shown → Answer → Type 0
Calls c old new answer = Called (Takes c) old new answer

-- ---- a PDU is handed out

-- what goes out, and what is written of it
pub record GivesOut (cid : ℕ) (old_buffer new_buffer : List ℕ) (old_pdu new_pdu : PlainPdu) (side after : Sided) (answer : Answer) : Type 0 where
  pub next : Next
  pub gives : Gives (Nexts cid) side after next
  pub answers : answer ≡ answer_by next
  pub buffer : new_buffer ≡ buffer_after next old_buffer
  pub pdu : new_pdu ≡ pdu_after next old_pdu

-- ---- what waits is handed over

-- nothing else happens
pub record HandsMore (old new : Shown) (answer : Answer) : Type 0 where
  pub closed : old.inside ≡ None → (answer ≡ NotOpen) × (new ≡ old)
  pub hands : (side : Sided) → old.inside ≡ Some side →
      (answer ≡ Done) × (new ≡ shown (Some (side_after old.places side)) (places_after old.places side) (told_after old.places side))

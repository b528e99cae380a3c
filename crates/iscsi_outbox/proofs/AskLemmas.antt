-- What a host is told that asks for a connection, by what the code chose.
use Rattle.std.proofs.Common.{◌≡◌, ℕ, ◌&&◌, Bool, true, false, Option, Some, None, not, is_some, option_map, refl, sym, ap, ◌∙◌, ◌+◌, zero, suc, List, [], ◌∷◌, cond, get_or, arith, if◌then◌else◌}
use Rattle.std.proofs.lemmas.Bool.{ltb-false}
use Rattle.iscsi_arrivals.specs.Counts.{Counts, new_counts}
use Rattle.iscsi_arrivals.proofs.CountLemmas.{count-cons}
use Rattle.iscsi_links.specs.Links.{closed_in}
use Rattle.iscsi_outbox_steps.specs.declared.given.Given.{Given}
use Rattle.iscsi_outbox_steps.specs.declared.given.Given.TheVariants.{Hands, Nothing, IsOver}
use Rattle.iscsi_outbox_steps.specs.State.{State, is_over, link_at, place_of}
use Rattle.iscsi_outbox_steps.specs.Steps.{Out, chosen, given, given_on, numbered}
use Rattle.iscsi_outbox.specs.private.Choices.{choice_of}
use Rattle.iscsi_outbox.specs.rules.Words.{gives_no_more, gives_pdu, has_closed}
use Rattle.iscsi_outbox.proofs.ChoiceLemmas.{given_at, given_none}

no_pdu : (b : Bool) → false ≡ gives_pdu (if b then IsOver else Nothing)
no_pdu true = refl
no_pdu false = refl

no_more : (b : Bool) → b ≡ gives_no_more (if b then IsOver else Nothing)
no_more true = refl
no_more false = refl

pub gives_pdu_at : (cid conn : ℕ) (s : State) → place_of s cid ≡ Some conn → is_some (option_map choice_of (chosen conn s)) ≡ gives_pdu (given cid s)
gives_pdu_at cid conn s at = by_choice (chosen conn s) refl
  where
    by_choice : (o : Option Out) → chosen conn s ≡ o → is_some (option_map choice_of o) ≡ gives_pdu (given cid s)
    by_choice (Some out) e = sym (ap gives_pdu (given_at cid conn s out at e))
    by_choice None e = no_pdu (is_over conn s) ∙ sym (ap gives_pdu (given_none cid conn s at e))

pub gives_no_more_at : (cid conn : ℕ) (s : State) → place_of s cid ≡ Some conn → (not (is_some (option_map choice_of (chosen conn s))) && is_over conn s) ≡ gives_no_more (given cid s)
gives_no_more_at cid conn s at = by_choice (chosen conn s) refl
  where
    by_choice : (o : Option Out) → chosen conn s ≡ o → (not (is_some (option_map choice_of o)) && is_over conn s) ≡ gives_no_more (given cid s)
    by_choice (Some out) e = sym (ap gives_no_more (given_at cid conn s out at e))
    by_choice None e = no_more (is_over conn s) ∙ sym (ap gives_no_more (given_none cid conn s at e))

-- a CID that none of the connections has
pub gives_nowhere : (cid : ℕ) (s : State) → place_of s cid ≡ None → false ≡ gives_pdu (given cid s)
gives_nowhere cid s e = sym (ap (λ (o : Option ℕ). gives_pdu (elim o as (λ (q : Option ℕ). Given) [ Some place ↦ given_on place s | None ↦ Nothing ])) e)

pub turned : (r s : Bool) → not r ≡ s → r ≡ not s
turned true s e = ap (λ b. not b) e
turned false s e = ap (λ b. not b) e

pub beside : (a b : Bool) → b ≡ true → a ≡ (a && b)
beside true b e = sym e
beside false b e = refl

pub without : (a b : Bool) → b ≡ false → false ≡ (a && b)
without true b e = sym e
without false b e = refl

-- ---- no connection is closed

none_closed : (links : List Counts) (conn : ℕ) → closed_in links ≡ 0 → (get_or links conn new_counts).closed ≡ false
none_closed [] conn none = refl
none_closed (l ∷ links) zero none = by l.closed (sym (count-cons (λ (x : Counts). x.closed) l links) ∙ none)
  where
    by : (b : Bool) → cond b 1 0 + closed_in links ≡ 0 → b ≡ false
    by true e = absurd (omega (arith, e))
    by false e = refl
none_closed (l ∷ links) (suc conn) none = none_closed links conn (by l.closed (sym (count-cons (λ (x : Counts). x.closed) l links) ∙ none))
  where
    by : (b : Bool) → cond b 1 0 + closed_in links ≡ 0 → closed_in links ≡ 0
    by true e = absurd (omega (arith, e))
    by false e = omega (arith, e)

closed_not : (a b c d e : Bool) → b ≡ false → (a && b && c && d && e) ≡ false
closed_not true true c d e h = cc
closed_not true false c d e h = refl
closed_not false b c d e h = refl

pub none_over : (s : State) → has_closed s ≡ false → (cid : ℕ) → gives_no_more (given cid s) ≡ false
none_over s none cid = by_place (place_of s cid)
  where
    is_none : closed_in s.links ≡ 0
    is_none = let a = ltb-false 0 (closed_in s.links) none in omega (arith, a)

    by_choice : (conn : ℕ) (o : Option Out) (b : Bool) → b ≡ false → gives_no_more (elim o as (λ (q : Option Out). Given) [ Some out ↦ Hands (numbered conn out s) | None ↦ (if b then IsOver else Nothing) ]) ≡ false
    by_choice conn (Some out) b h = refl
    by_choice conn None true h = cc
    by_choice conn None false h = refl

    by_place : (o : Option ℕ) → gives_no_more (elim o as (λ (q : Option ℕ). Given) [ Some conn ↦ given_on conn s | None ↦ Nothing ]) ≡ false
    by_place (Some conn) = by_choice conn (chosen conn s) (is_over conn s) (closed_not _ (link_at s conn).closed _ _ _ (none_closed s.links conn is_none))
    by_place None = refl

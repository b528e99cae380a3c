-- ExpCmdSN, as the last event that was taken left it.
use Rattle.std.proofs.Common.{◌≡◌, ⊎_elim, List, [], ◌∷◌, ◌++◌, Some, None, refl, ap, sym, ◌∙◌}
use Rattle.std.proofs.lemmas.Bool.{cond_both}
use Rattle.iscsi_rules.specs.declared.effect.Numbers.{Numbers}
use Rattle.iscsi_outbox_rules.specs.rules.Calls.{Opening, Call, Takes, Puts, Stops, Nexts, Writes, Hears, Joins, Loses, Clears}
use Rattle.iscsi_outbox_rules.specs.rules.Boxes.{Answer, Box}
use Rattle.iscsi_outbox_rules.specs.rules.Words.{is_running}
use Rattle.iscsi_outbox_rules.specs.rules.Queues.{at_link, enter, drop_on}
use Rattle.iscsi_outbox_rules.specs.rules.Due.{is_due, settle_from, settle}
use Rattle.iscsi_outbox_rules.specs.rules.Items.{in_phase}
use Rattle.iscsi_outbox_rules.specs.rules.Own.{own_conn, own_outgoing, put_refusal}
use Rattle.iscsi_outbox_rules.specs.rules.Run.{Answered, after_call, answered, phase_stopped, one_written, link_heard, may_join, link_joined, link_lost, cleared}
use Rattle.iscsi_outbox_rules.specs.promises.Deeds.{Deed}
use Rattle.iscsi_outbox_rules.specs.promises.Numbers.{numbers_after, first_numbers}
use Rattle.iscsi_outbox_rules.proofs.general.Cuts.{Hand, Idle, next}

settle_from-exp : (o : Opening) (before rest : List Answer) (b : Box) → (settle_from o before rest b).exp ≡ b.exp
settle_from-exp o before [] b = refl
settle_from-exp o before (a ∷ rest) b =
    cond_both (is_due o b before a) (settle_from o before rest (enter a.conn a.out b)) (settle_from o (before ++ a ∷ []) rest b) (λ (b' : Box). b'.exp ≡ b.exp)
    (λ due. settle_from-exp o before rest (enter a.conn a.out b)) (λ due. settle_from-exp o (before ++ a ∷ []) rest b)

settle-exp : (o : Opening) (b : Box) → (settle o b).exp ≡ b.exp
settle-exp o b = settle_from-exp o [] b.undue b

-- the numbers of the event that a call takes, or those of before
abbrev numbers_by : Numbers → Call → Numbers
numbers_by n (Takes effects numbers) = numbers
numbers_by n _ = n

numbers-more : (n : Numbers) (ds : List Deed) (c : Call) (a : Answered) → numbers_after n (ds ++ (c, a) ∷ []) ≡ numbers_by (numbers_after n ds) c
numbers-more n [] (Takes effects numbers) a = refl
numbers-more n [] (Puts p) a = refl
numbers-more n [] (Stops ticket) a = refl
numbers-more n [] (Nexts conn) a = refl
numbers-more n [] (Writes conn) a = refl
numbers-more n [] (Hears conn exp_stat_sn tag) a = refl
numbers-more n [] (Joins conn stat_sn) a = refl
numbers-more n [] (Loses conn) a = refl
numbers-more n [] (Clears unit) a = refl
numbers-more n (d ∷ ds) c a = numbers-more _ ds c a

call-exp : (o : Opening) (b : Box) (n : Numbers) (c : Call) → b.exp ≡ n.exp → (after_call o b c).exp ≡ (numbers_by n c).exp
call-exp o b n (Takes effects numbers) h = refl
call-exp o b n (Puts p) h =
    elim (put_refusal o b p) as (λ x. Shown (elim x [ Some refusal ↦ b | None ↦ elim (own_conn b p) [ Some conn ↦ enter conn (own_outgoing p) b | None ↦ b ] ])) [
      | Some refusal ↦ h
      | None ↦ elim (own_conn b p) as (λ x. Shown (elim x [ Some conn ↦ enter conn (own_outgoing p) b | None ↦ b ])) [ Some conn ↦ h | None ↦ h ]
    ]
  where
    Shown : Box → Type 0
    Shown b' = b'.exp ≡ n.exp
call-exp o b n (Stops ticket) h =
    cond_both (is_running b ticket) (settle o (in_phase phase_stopped (ticket ∷ []) b)) b (λ (b' : Box). b'.exp ≡ n.exp) (λ is. settle-exp o (in_phase phase_stopped (ticket ∷ []) b) ∙ h) (λ is. h)
call-exp o b n (Nexts conn) h =
    ⊎_elim (λ (k : Hand o b conn). ap (λ (b' : Box). b'.exp) k.after_is ∙ h) (λ (k : Idle o b conn). ap (λ (b' : Box). b'.exp) k.after_is ∙ h) (next o b conn)
call-exp o b n (Writes conn) h = settle-exp o (record b { links = at_link conn one_written b.links }) ∙ h
call-exp o b n (Hears conn exp_stat_sn tag) h = settle-exp o (record b { links = at_link conn (link_heard exp_stat_sn tag) b.links }) ∙ h
call-exp o b n (Joins conn stat_sn) h = cond_both (may_join b conn) (record b { links = at_link conn (link_joined stat_sn) b.links }) b (λ (b' : Box). b'.exp ≡ n.exp) (λ is. h) (λ is. h)
call-exp o b n (Loses conn) h = settle-exp o (drop_on conn (record b { links = at_link conn link_lost b.links; reached = 0 })) ∙ h
call-exp o b n (Clears unit) h = settle-exp o (record b { undue = cleared unit b.undue }) ∙ h

abbrev pub ExpStands : Opening → List Deed → Box → Type 0
ExpStands o ds b = b.exp ≡ (numbers_after (first_numbers o) ds).exp

pub exp_calls : (o : Opening) (ds : List Deed) (b : Box) (c : Call) → ExpStands o ds b → ExpStands o (ds ++ (c, answered o b c) ∷ []) (after_call o b c)
exp_calls o ds b c h = call-exp o b (numbers_after (first_numbers o) ds) c h ∙ ap (λ (n : Numbers). n.exp) (sym (numbers-more (first_numbers o) ds c (answered o b c)))

use Rattle.std.proofs.Common.{◌≡◌, ◌∙◌, rules, tests, ap, nat_lt, take, drop, ◌++◌, ◌∷◌, unwrap_or, length}
use Rattle.std.specs.List.{position}
use Rattle.std.proofs.lemmas.Iterator.{YieldsList-from_slice}
use Rattle.std.proofs.lemmas.Iterator.Search.{position_from_yields_List}
use Rattle.iscsi_ffi_desk.proofs.AskLemmas.{place_is}
use Rattle.iscsi_ffi_desk.proofs.desk.starting.place_among.Goals as goal

pub returns-clause-at : goal.returns-clause-at
returns-clause-at c =
    let ticket = c.args.ticket in
    let tickets = c.args.tickets.now in
    let found : c.position.result ≡ position (nat_lt ticket) tickets = position_from_yields_List (nat_lt ticket) _ _ c.position.result c.position.ensures.ran (YieldsList-from_slice tickets cc) (λ x b q k. search (rules, tests)) in
    ap (λ k. take k tickets ++ ticket ∷ drop k tickets) (c.unwrap_or.ensures ∙ ap (λ o. unwrap_or o (length tickets)) found) ∙ place_is ticket tickets

use Rattle.std.proofs.Common.{◌≡◌, ℕ, ◌-◌, ◌+◌, List, arith, sym, refl, ap, ◌∙◌, drop, take, get_or, length-drop, rules}
use Rattle.std.proofs.lemmas.List.{get_or-drop, drop-drop}
use Rattle.iscsi_recording.specs.Fields.{hex_of}
use Rattle.iscsi_recording.proofs.FrontLemmas.{arrival_first}
use Rattle.iscsi_recording.proofs.parse.arrival_behind.Goals as goal

pub returns : goal.returns
returns c =
    let bytes : List ℕ = c.args.bytes.now in
    let count = c.args.count in
    let long : count + 99 - (count + 3) ≡ 96 = omega arith in
    let behind : drop (count + 3) bytes ≡ drop (count + 1) (drop 2 bytes) = let sum : count + 3 ≡ 2 + (count + 1) = omega arith in ap (λ n. drop n bytes) sum ∙ sym (drop-drop (count + 1) 2 bytes) in
    let end : get_or (drop 2 bytes) (count + 1 + 96) 0 ≡ 10 = let at : 2 + (count + 1 + 96) ≡ count + 99 = omega arith in get_or-drop 2 bytes (count + 1 + 96) 0 ∙ ap (λ k. get_or bytes k 0) at ∙ search rules in
    arrival_first bytes (drop 2 bytes) c.in_ok-header.header c.args.conn count 96 _ refl
    (omega arith) c.requires.letter.0 c.requires.letter.1 c.requires.cid (omega arith) c.requires.few refl (omega (arith, length-drop {A = ℕ}))
    end (ap (λ l. hex_of 48 (take 96 l)) (sym behind) ∙ ap (λ n. hex_of 48 (take n (drop (count + 3) bytes))) (sym long) ∙ sym c.decode_48.ensures ∙ search rules) (omega arith)

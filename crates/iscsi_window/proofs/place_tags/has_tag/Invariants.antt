use Rattle.std.proofs.Common.{◌≡◌, ◌==◌, take}
use Rattle.std.specs.List.{list_any}
use Rattle.iscsi_window.proofs.place_tags.has_tag.Given as goal

abbrev pub invariant-loop-tag : goal.invariant-loop-tag
invariant-loop-tag l = l.found ≡ list_any (λ t. t == l.itt) (take l.tag-index l.tags)

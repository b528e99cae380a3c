use Rattle.std.proofs.Common.{arith, ◌∙◌}
use Rattle.iscsi_threads.proofs.session_loop.Loop.make_all_rooms.Goals as goal

pub returns : goal.returns
returns c =
    let left = c.in_ok-make_rooms.ensures in let untaken = c.in_ok-make_job_rooms.ensures in let unread = c.in_ok-make_rooms-2.ensures in
    record {
      lens = (left.0 ∙ c.len.ensures, untaken.0 ∙ c.deref.ensures.len, unread.0 ∙ c.len-3.ensures);
      left = left.1;
      untaken = λ i o v lt. let room = untaken.1 i o v (omega (arith, c.deref.ensures.len)) in rw (c.deref.ensures.value, c.len-2.ensures) at room;
      unread = unread.1;
    }

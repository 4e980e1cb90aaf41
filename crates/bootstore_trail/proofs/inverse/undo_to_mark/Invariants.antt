use Rattle.std.proofs.Common.{◌≡◌, ◌≤◌, reverse, vec_len}
use Rattle.bootstore_trail.specs.Inverse.{CanGoBack, KeepsOnce, frame_reach, up_to_mark, marked_before}
use Rattle.bootstore_state.specs.Present.{moment_of}
use Rattle.bootstore_trail.proofs.inverse.undo_to_mark.Given as goal

-- the moments at the marks stay; if nothing is kept, nothing was undone
abbrev pub invariant-loop-last : goal.invariant-loop-last
invariant-loop-last l = record {
  can : CanGoBack l.present (frame_reach (reverse l.kept.items)) (reverse l.kept.items);
  once : KeepsOnce l.present (up_to_mark (reverse l.kept.items)) (reverse l.kept.items);
  marked : marked_before (moment_of l.present) (reverse l.kept.items) ≡ marked_before (moment_of l.fn.present) (reverse l.fn.kept.items);
  fewer : vec_len l.kept ≤ vec_len l.fn.kept;
  untouched : vec_len l.fn.kept ≡ 0 → moment_of l.present ≡ moment_of l.fn.present;
}

abbrev pub decreases-loop-last : goal.decreases-loop-last
decreases-loop-last l = vec_len l.kept

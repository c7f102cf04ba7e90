-- `listing::run` meets its contract: not of the form, refused, or done. Assumes nothing.
use Rattle.std.proofs.Common.{sym, arith}
use lib.Seq.{length-take-le}
use Rattle.text.proofs.Puts.{put_as}
use Rattle.listing.proofs.Answered.{not_of_form, form_levels, form_count, form_at, run_refused, run_done, run_entries, run_room}
use Rattle.listing.proofs.run.Goals as goal

pub returns-in_default : goal.returns-in_default
returns-in_default c = put_as (sym (not_of_form _ c.in_default.ensures)) c.put_not_form.ensures

pub slice_bounds-samples-count : goal.slice_bounds-samples-count
slice_bounds-samples-count c = form_at _ _ c.in-Some.ensures

pub slice_bounds-samples-start : goal.slice_bounds-samples-start
slice_bounds-samples-start c = form_at _ _ c.in-Some.ensures

pub slice_bounds-levels-end : goal.slice_bounds-levels-end
slice_bounds-levels-end c = form_levels _ _ c.in-Some.ensures

pub slice_bounds-tree-end : goal.slice_bounds-tree-end
slice_bounds-tree-end c = sym (form_count _ _ c.in-Some.ensures)

pub returns-then-answer-ne0 : goal.returns-then-answer-ne0
returns-then-answer-ne0 c = put_as (sym (run_refused _ _ c.in-Some.ensures _ _ _ _ c.requires _ c.tree-answer.ensures.0 c.if-answer-ne0.true)) c.put_refused.ensures

pub slice_bounds-entries-end : goal.slice_bounds-entries-end
slice_bounds-entries-end c = run_entries _ _ c.in-Some.ensures _ _ _ _ c.requires _ c.tree-answer.ensures.0 c.if-answer-ne0.false _ _ c.tree-answer.ensures.2 c.tree-answer.ensures.3

pub slice_bounds-entries-end-2 : goal.slice_bounds-entries-end-2
slice_bounds-entries-end-2 c =
    sym (length-take-le _ _ (run_entries _ _ c.in-Some.ensures _ _ _ _ c.requires _ c.tree-answer.ensures.0 c.if-answer-ne0.false _ _ c.tree-answer.ensures.2 c.tree-answer.ensures.3))

pub put_listing-requires : goal.put_listing-requires
put_listing-requires c = run_room _ _ c.in-Some.ensures _ _ _ _ c.requires _ c.tree-answer.ensures.0 c.if-answer-ne0.false _ _ c.tree-answer.ensures.2 c.tree-answer.ensures.3 (λ j. omega (arith, c.type_inv.input j))

pub returns : goal.returns
returns c = put_as (sym (run_done _ _ c.in-Some.ensures _ _ _ _ c.requires _ c.tree-answer.ensures.0 c.if-answer-ne0.false _ _ c.tree-answer.ensures.2 c.tree-answer.ensures.3)) c.put_listing.ensures

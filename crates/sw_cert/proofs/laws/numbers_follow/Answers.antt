use Rattle.sw_cert.proofs.Following.{function_follows, block_follows, elements_follow}
use Rattle.sw_cert.proofs.Following.{class_follows}
use Rattle.sw_cert.proofs.FollowingPairs.{count_follows, element_follows, site_follows}
use Rattle.sw_cert.proofs.laws.numbers_follow.Goals as goal

pub returns : goal.returns
returns c = record {
  function = λ extents spot fit n closer. function_follows extents fit spot n closer;
  block = λ extents spot function extent fit is n closer.
      block_follows extents fit spot function extent is n closer;
  elements = λ extents spot function block extent fit line n closer.
      elements_follow extents fit spot function extent line.is_extent block line.within line.rises
      n closer;
  class = λ extents spot function block extent classes fit line more are n closer.
      class_follows extents fit spot function extent line.is_extent block line.within line.rises
      classes more are n closer;
  count = λ extents spot function block extent classes fit line all n closer.
      count_follows extents fit spot function extent line.is_extent block line.within line.rises
      classes all.all all.are_classes n closer;
  element = λ extents spot function block extent classes known to left fit line all rise some n
      closer.
      element_follows extents fit spot function extent line.is_extent block line.within line.rises
      classes all.all all.are_classes known to left rise some n closer;
  site = λ extents spot function block extent classes known to left element fit line all rise some
      n closer.
      site_follows extents fit spot function extent line.is_extent block line.within line.rises
      classes all.all all.are_classes known to left rise some element n closer;
}

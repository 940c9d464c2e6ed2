use Rattle.std.proofs.Common.{length, take, ◌-◌, ◌≡◌, ◌≤◌, List}
use Rattle.capi.specs.declared.titles.CllTitle.{CllTitle}
use Rattle.capi.specs.Titles.{AreTitles, IsFilled}
use Rattle.capi.proofs.titles.fill.Given as goal

abbrev pub invariant-titles : goal.invariant-titles
invariant-titles l = record {
  entries : List CllTitle;
  run : AreTitles 0 (take l.taken l.bytes) entries;
  is_filled : IsFilled l.fn.titles entries l.titles;
  counted : l.filled ≡ length entries;
  within : l.taken ≤ length l.bytes;
  in_room : length entries ≤ length l.fn.titles;
}

abbrev pub decreases-titles : goal.decreases-titles
decreases-titles l = length l.initial.titles - l.filled

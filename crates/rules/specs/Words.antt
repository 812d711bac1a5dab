-- The words of the statements about calls, brought together once.
pub use Rattle.base.specs.Walk.{pick, first, all, count}
pub use Rattle.base.specs.Code.{Out, out, unless, or_else}
pub use Rattle.base.specs.Size.{Huge, rows_per, huge_order}
pub use Rattle.base.specs.Bits.{bit_is, block_is}
pub use Rattle.rules.specs.Numbers.{mark, huge_of, tree_of, is_tree, top_order, block_at, ceil, rows_needed, trees_needed, entries_needed, group_of}
pub use Rattle.rules.specs.Refusals.{Sized, sizes_refusal, block_refusal, start_refusal, frame_refusal}
pub use Rattle.rules.specs.State.{Mem, mem, entry_of, free_of, clear_of, entries_are}
pub use Rattle.rules.specs.Get.{got}
pub use Rattle.rules.specs.Queries.{statistics}
pub use Rattle.rules.specs.Audit.{fault}
pub use Rattle.rules.specs.Recover.{recovered}

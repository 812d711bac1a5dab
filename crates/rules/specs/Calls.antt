-- The calls of document 01, and of document 02 what has landed, brought together.
pub use Rattle.rules.specs.Get.{get, get_at}
pub use Rattle.rules.specs.Put.{put}
pub use Rattle.rules.specs.Queries.{is_free, stats, stats_at}
pub use Rattle.rules.specs.Starts.{free_all, reserve_all}
pub use Rattle.rules.specs.Audit.{audit}
pub use Rattle.rules.specs.Recover.{recover}
pub use Rattle.rules.specs.Room.{room, tree_run}
pub use Rattle.rules.specs.Why.{why_get, why_get_at, why_put}

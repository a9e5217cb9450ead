-- Uniqueness of the public calls of the uncore crates (document 02, request 2), as Unique says it of the others: one record for each crate,
-- one field for each public call.
-- Assumes nothing.
use Rattle.uncore_registers.proofs.header.HeaderFromU64.from.Reads as uncore-registers-header-read
use Rattle.uncore_registers.proofs.header.U64TryFromHeader.try_from.Reads as uncore-registers-header-write
use Rattle.uncore_registers.proofs.offsets.OffsetsFromU64.from.Reads as uncore-registers-offsets-read
use Rattle.uncore_registers.proofs.offsets.U64TryFromOffsets.try_from.Reads as uncore-registers-offsets-write
use Rattle.uncore_registers.proofs.status.StatusFromU64.from.Reads as uncore-registers-status-read
use Rattle.uncore_registers.proofs.status.U64TryFromStatus.try_from.Reads as uncore-registers-status-write
use Rattle.uncore_controls.proofs.control.ControlFromU64.from.Reads as uncore-controls-control-read
use Rattle.uncore_controls.proofs.control.U64TryFromControl.try_from.Reads as uncore-controls-control-write
use Rattle.uncore_controls.proofs.advanced1.Advanced1FromU64.from.Reads as uncore-controls-advanced1-read
use Rattle.uncore_controls.proofs.advanced1.U64TryFromAdvanced1.try_from.Reads as uncore-controls-advanced1-write
use Rattle.uncore_controls.proofs.advanced2.Advanced2FromU64.from.Reads as uncore-controls-advanced2-read
use Rattle.uncore_controls.proofs.advanced2.U64TryFromAdvanced2.try_from.Reads as uncore-controls-advanced2-write
use Rattle.uncore_clusters.proofs.clusters.count_of.Reads as uncore-clusters-count-of
use Rattle.uncore_clusters.proofs.clusters.clusters_in.Reads as uncore-clusters-clusters-in
use Rattle.uncore_clusters.proofs.clusters.fabric_in.Reads as uncore-clusters-fabric-in
use Rattle.uncore_clusters.proofs.clusters.place_in.Reads as uncore-clusters-place-in
use Rattle.uncore_clusters.proofs.clusters.content_in.Reads as uncore-clusters-content-in
use Rattle.uncore_lookups.proofs.fabric.clusters.Reads as uncore-lookups-clusters
use Rattle.uncore_lookups.proofs.fabric.global.Reads as uncore-lookups-global
use Rattle.uncore_lookups.proofs.fabric.place.Reads as uncore-lookups-place
use Rattle.uncore_lookups.proofs.fabric.content.Reads as uncore-lookups-content
use Rattle.uncore_permits.proofs.control_fields.next_word.Reads as uncore-permits-next-word
use Rattle.uncore_writes.proofs.control_next.next_in.Reads as uncore-writes-next-in
use Rattle.uncore_writes.proofs.control_next.next.Reads as uncore-writes-next
use Rattle.uncore_writes.proofs.control_write.write.Reads as uncore-writes-write
use Rattle.uncore_lines.proofs.clock_lines.instance_line.Reads as uncore-lines-instance-line
use Rattle.uncore_lines.proofs.clock_lines.cluster_line.Reads as uncore-lines-cluster-line
use Rattle.uncore_lines.proofs.clock_lines.refused_line.Reads as uncore-lines-refused-line
use Rattle.stamp.specs.Unique.{Only, Fixes, held_by}

pub record UncoreRegistersUnique : Type 0 where
  pub header_read : Only uncore-registers-header-read.Post
  pub header_write : Only uncore-registers-header-write.Post
  pub offsets_read : Only uncore-registers-offsets-read.Post
  pub offsets_write : Only uncore-registers-offsets-write.Post
  pub status_read : Only uncore-registers-status-read.Post
  pub status_write : Only uncore-registers-status-write.Post

pub record UncoreControlsUnique : Type 0 where
  pub control_read : Only uncore-controls-control-read.Post
  pub control_write : Only uncore-controls-control-write.Post
  pub advanced1_read : Only uncore-controls-advanced1-read.Post
  pub advanced1_write : Only uncore-controls-advanced1-write.Post
  pub advanced2_read : Only uncore-controls-advanced2-read.Post
  pub advanced2_write : Only uncore-controls-advanced2-write.Post

pub record UncoreClustersUnique : Type 0 where
  pub count_of : Only uncore-clusters-count-of.Post
  pub clusters_in : Only uncore-clusters-clusters-in.Post
  pub fabric_in : Only uncore-clusters-fabric-in.Post
  pub place_in : Only uncore-clusters-place-in.Post
  pub content_in : Only uncore-clusters-content-in.Post

pub record UncoreLookupsUnique : Type 0 where
  pub clusters : Only uncore-lookups-clusters.Post
  pub global : Only uncore-lookups-global.Post
  pub place : Only uncore-lookups-place.Post
  pub content : Only uncore-lookups-content.Post

pub record UncorePermitsUnique : Type 0 where
  pub next_word : Only uncore-permits-next-word.Post

pub record UncoreWritesUnique : Type 0 where
  pub next_in : Only uncore-writes-next-in.Post
  pub next : Only uncore-writes-next.Post
  pub write_call : Only uncore-writes-write.Post
  pub write_call_low : Fixes (λ κs x s. s.1.1.0.now) uncore-writes-write.Post
  pub write_call_high : Fixes (λ κs x s. s.1.1.1.1.0.now) uncore-writes-write.Post

pub record UncoreLinesUnique : Type 0 where
  pub instance_line : Fixes (λ κs x s. held_by s.0.now) uncore-lines-instance-line.Post
  pub cluster_line : Fixes (λ κs x s. held_by s.0.now) uncore-lines-cluster-line.Post
  pub refused_line : Fixes (λ κs x s. held_by s.0.now) uncore-lines-refused-line.Post

-- Uniqueness (document 01, "What the stamp certifies"): of every public call, any two results that its contract allows are equal. The
-- contracts themselves are named here (`Post` of each function), not copies of them; of `sweep_lent`'s `sweep` alone a statement of our own, which
-- is proved to be its contract. The one exception: of a part that is handed back its bytes are fixed, not the reference (docs/STAMP.md).
--   Only P        the result is fixed: for all lifetimes κs and arguments a, and whatever the parameters are at exit
--   held_by p     what a page holds, and its place
--   Fixes out P   what `out` takes of the result and of the parameters at exit is fixed: the bytes of a part that is handed back, and what
--                 was lent `&mut` as it is at exit (`s.0` is the first parameter at exit, `s.1.0` the second, ..)
-- One record for each crate, one field for each public call; those of the uncore crates are in UniqueUncore.
-- Assumes nothing.
use denote.RattleType.{RattleType}
use denote.Param.Laws.{Laws, IsCopy}
use mir.Syntax.{Dict}
use Rattle.std.specs.Prelude.{ℕ, ◌≡◌, List}
use Rattle.std.specs.declared.clone.Clone as Clone
use Rattle.words.proofs.answers.number_of.Reads as words-number-of
use Rattle.words.proofs.bytes.u8_at.Reads as words-u8-at
use Rattle.words.proofs.bytes.u16_at.Reads as words-u16-at
use Rattle.words.proofs.bytes.u32_at.Reads as words-u32-at
use Rattle.words.proofs.bytes.u64_at.Reads as words-u64-at
use Rattle.list_input.proofs.layout.layout_of.Reads as list-input-layout-of
use Rattle.list_input.proofs.layout.config_in.Reads as list-input-config-in
use Rattle.list_input.proofs.layout.low_in.Reads as list-input-low-in
use Rattle.list_input.proofs.layout.high_in.Reads as list-input-high-in
use Rattle.stores.proofs.numbers.store_u8.Reads as stores-store-u8
use Rattle.stores.proofs.numbers.store_u16.Reads as stores-store-u16
use Rattle.stores.proofs.numbers.store_u32.Reads as stores-store-u32
use Rattle.stores.proofs.numbers.store_u64.Reads as stores-store-u64
use Rattle.text.specs.declared.page.Page.{Page}
use Rattle.text.proofs.page.Page.put.Reads as text_put
use Rattle.text.proofs.page.Page.shown.Reads as text-page-shown
use Rattle.text.proofs.page.shown.Reads as text-shown
use Rattle.text.proofs.page.Page.decimal.Reads as text-decimal
use Rattle.text.proofs.page.Page.hex.Reads as text-hex
use Rattle.text.proofs.page.Page.labelled.Reads as text-labelled
use Rattle.text.proofs.page.Page.labelled_hex.Reads as text-labelled-hex
use Rattle.fields.proofs.bits.field.Reads as fields-field
use Rattle.fields.proofs.bits.with_field.Reads as fields-with-field
use Rattle.fields.proofs.tables.word_of.Reads as fields-word-of
use Rattle.capture.proofs.places.Capture.bar.Reads as capture-bar
use Rattle.capture.proofs.places.Capture.part.Reads as capture-part
use Rattle.report.proofs.endings.refusal.Reads as report-refusal
use Rattle.report.proofs.endings.outcome.Reads as report-outcome
use Rattle.report.proofs.endings.value.Reads as report-value
use Rattle.report.proofs.endings.content.Reads as report-content
use Rattle.report.proofs.endings.place.Reads as report-place
use Rattle.energy_calls.proofs.calls.reading_of.Reads as energy-calls-reading-of
use Rattle.energy_calls.proofs.calls.opening_of.Reads as energy-calls-opening-of
use Rattle.energy_calls.proofs.calls.count_of.Reads as energy-calls-count-of
use Rattle.energy_calls.proofs.calls.number_of.Reads as energy-calls-number-of
use Rattle.energy_channel.proofs.channel.Channel.is_open.Reads as energy-channel-is-open
use Rattle.energy_channel.proofs.channel.Channel.take.Reads as energy-channel-take
use Rattle.energy_channel.proofs.channel.closed_channel.Reads as energy-channel-closed-channel
use Rattle.energy_channel.proofs.channel.Channel.share.Reads as energy-channel-share
use Rattle.tpmi_structure.proofs.structure.vsec_at.Reads as tpmi-structure-vsec-at
use Rattle.tpmi_structure.proofs.structure.read.Reads as tpmi-structure-read
use Rattle.tpmi_structure.proofs.structure.write.Reads as tpmi-structure-write
use Rattle.tpmi_structure.proofs.structure.fixed_wrong.Reads as tpmi-structure-fixed-wrong
use Rattle.rapl_domains.proofs.domains.HeaderFromU64.from.Reads as rapl-domains-read
use Rattle.rapl_domains.proofs.domains.domain_in.Reads as rapl-domains-domain-in
use Rattle.tpmi_entries.proofs.entry.entry_at.Reads as tpmi-entries-entry-at
use Rattle.tpmi_entries.proofs.entry.read.Reads as tpmi-entries-read
use Rattle.tpmi_entries.proofs.entry.write.Reads as tpmi-entries-write
use Rattle.rapl_units.proofs.units.UnitsFromU64.from.Reads as rapl-units-read
use Rattle.rapl_units.proofs.units.U64TryFromUnits.try_from.Reads as rapl-units-write
use Rattle.tpmi_banks.proofs.faults.Entries.bank_in.Reads as tpmi-banks-bank-in
use Rattle.tpmi_banks.proofs.faults.empty.Reads as tpmi-banks-empty
use Rattle.tpmi_banks.proofs.faults.Entries.fault.Reads as tpmi-banks-fault
use Rattle.tpmi_banks.proofs.faults.Entries.faults.Reads as tpmi-banks-faults
use Rattle.energy_hall.proofs.hall.all_closed.Reads as energy-hall-all-closed
use Rattle.energy_hall.proofs.hall.call_on.Reads as energy-hall-call-on
use Rattle.energy_hall.proofs.hall.open.Reads as energy-hall-open
use Rattle.energy_hall.proofs.hall.read.Reads as energy-hall-read
use Rattle.energy_hall.proofs.hall.resume.Reads as energy-hall-resume
use Rattle.energy_hall.proofs.hall.close.Reads as energy-hall-close
use Rattle.energy_hall.proofs.hall.total.Reads as energy-hall-total
use Rattle.energy_hall.proofs.hall.hall_total.Reads as energy-hall-hall-total
use Rattle.tpmi_walk.proofs.walk.walk.Reads as tpmi-walk-walk
use Rattle.rapl_windows.proofs.windows.window_code.Reads as rapl-windows-window-code
use Rattle.rapl_windows.proofs.windows.quarters.Reads as rapl-windows-quarters
use Rattle.rapl_registers.proofs.contents.present.Reads as rapl-registers-present
use Rattle.rapl_registers.proofs.contents.register_in.Reads as rapl-registers-register-in
use Rattle.rapl_limits.proofs.limit.LimitFromU64.from.Reads as rapl-limits-read
use Rattle.rapl_limits.proofs.limit.U64TryFromLimit.try_from.Reads as rapl-limits-write
use Rattle.tpmi_discovery.proofs.table.locate.Reads as tpmi-discovery-locate
use Rattle.tpmi_discovery.proofs.discovery.discover.Reads as tpmi-discovery-discover
use Rattle.rapl_permits.proofs.permits.span_of.Reads as rapl-permits-span-of
use Rattle.rapl_permits.proofs.permits.refusal.Reads as rapl-permits-refusal
use Rattle.tpmi_features.proofs.instances.feature.Reads as tpmi-features-feature
use Rattle.tpmi_features.proofs.instances.instance_place.Reads as tpmi-features-instance-place
use Rattle.tpmi_features.proofs.instances.instance.Reads as tpmi-features-instance
use Rattle.tpmi_features.proofs.instances.instance_number.Reads as tpmi-features-instance-number
use Rattle.tpmi_features.proofs.entries.entry.Reads as tpmi-features-entry
use Rattle.rapl_chains.proofs.chains.chain_in.Reads as rapl-chains-chain-in
use Rattle.rapl_lookups.proofs.lookups.domain.Reads as rapl-lookups-domain
use Rattle.rapl_lookups.proofs.lookups.register.Reads as rapl-lookups-register
use Rattle.rapl_lookups.proofs.lookups.chain.Reads as rapl-lookups-chain
use Rattle.tpmi_counts.proofs.valid.valid_count.Reads as tpmi-counts-valid-count
use Rattle.tpmi_counts.proofs.valid.valid_in.Reads as tpmi-counts-valid-in
use Rattle.tpmi_registers.proofs.registers.register_place.Reads as tpmi-registers-register-place
use Rattle.tpmi_registers.proofs.registers.register.Reads as tpmi-registers-register
use Rattle.tpmi_store.proofs.store.store.Reads as tpmi-store-store
use Rattle.rapl_writes.proofs.next.next_in.Reads as rapl-writes-next-in
use Rattle.rapl_writes.proofs.next.next.Reads as rapl-writes-next
use Rattle.rapl_writes.proofs.write.write.Reads as rapl-writes-write
use Rattle.list_lines.proofs.listing.UnlistedFromRefusal.from.Reads as list-lines-unlisted-from
use Rattle.list_lines.proofs.listing.number_of.Reads as list-lines-number-of
use Rattle.list_lines.proofs.listing.listing_of.Reads as list-lines-listing-of
use Rattle.list_lines.proofs.listing.bar_in.Reads as list-lines-bar-in
use Rattle.list_lines.proofs.line.line_of.Reads as list-lines-line-of
use Rattle.list_output.proofs.output.list.Reads as list-output-list
use Rattle.records.proofs.partial.begin.Reads as records-begin
use Rattle.records.proofs.partial.length_of.Reads as records-length-of
use Rattle.records.proofs.partial.Partial.is_stopped.Reads as records-is-stopped
use Rattle.records.proofs.partial.Partial.ended.Reads as records-ended
use Rattle.records.proofs.partial.gather.Reads as records-gather
use Rattle.records_body.proofs.body.numbers.Reads as records-body-numbers
use Rattle.records_body.proofs.body.put_numbers.Reads as records-body-put-numbers
use Rattle.replay_trace.proofs.trace.call_of.Reads as replay-trace-call-of
use Rattle.replay_trace.proofs.trace.write_record.Reads as replay-trace-write-record
use Rattle.replay_steps.proofs.steps.start.Reads as replay-steps-start
use Rattle.replay_steps.proofs.steps.step.Reads as replay-steps-step
use Rattle.replay_steps.proofs.steps.ended.Reads as replay-steps-ended
use Rattle.replay_lines.proofs.spoken.record_line.Reads as replay-lines-record-line
use Rattle.replay_lines.proofs.spoken.stop_line.Reads as replay-lines-stop-line
use Rattle.replay_lines.proofs.spoken.open_lines.Reads as replay-lines-open-lines
use Rattle.sweep_readings.proofs.swept.asked_of.Reads as sweep-readings-asked-of
use Rattle.sweep_readings.proofs.swept.unfit.Reads as sweep-readings-unfit
use Rattle.sweep_readings.proofs.swept.sweep_array.Reads as sweep-readings-sweep-array
use Rattle.sweep_lent.proofs.lent.unread.sweep as sweep-lent-sweep
use Rattle.sweep_lent.proofs.lent.sweep_own.Reads as sweep-lent-sweep-own

-- what a page holds, and its place
abbrev pub held_by : Page → List ℕ × ℕ
held_by p = (p.bytes.now, p.at)

abbrev pub Fixes : {L : Type 0} {A R E B : L → Type 0} → ((κs : L) → R κs → E κs → B κs) → ((κs : L) → A κs → R κs → E κs → Type 0) → Type 0
Fixes {L} {A} {R} {E} out P = (κs : L) (a : A κs) (x y : R κs) (s t : E κs) → P κs a x s → P κs a y t → out κs x s ≡ out κs y t

abbrev pub Only : {L : Type 0} {A R E : L → Type 0} → ((κs : L) → A κs → R κs → E κs → Type 0) → Type 0
Only {L} {A} {R} {E} P = Fixes (λ κs x s. x) P

-- the same of a call that is generic over one type that can be copied, at each such type
abbrev pub OnlyEach : {K : (T : RattleType) → Laws T → IsCopy T → Clone.Ghosts T.Denot → Dict → Type 0}
    {A R E : (T : RattleType) (l : Laws T) (c : IsCopy T) (g : Clone.Ghosts T.Denot) (d : Dict) → K T l c g d → Type 0}
    → ((T : RattleType) (l : Laws T) (c : IsCopy T) (g : Clone.Ghosts T.Denot) (d : Dict) (κs : K T l c g d) → A T l c g d κs → R T l c g d κs → E T l c g d κs → Type 0)
    → Type 2
OnlyEach P = (T : RattleType) (l : Laws T) (c : IsCopy T) (g : Clone.Ghosts T.Denot) (d : Dict) → Only (P T l c g d)

pub record WordsUnique : Type 2 where
  pub number_of : OnlyEach words-number-of.Post
  pub u8_at : Only words-u8-at.Post
  pub u16_at : Only words-u16-at.Post
  pub u32_at : Only words-u32-at.Post
  pub u64_at : Only words-u64-at.Post

pub record ListInputUnique : Type 0 where
  pub layout_of : Only list-input-layout-of.Post
  pub config_in : Fixes (λ κs x s. x.now) list-input-config-in.Post
  pub low_in : Fixes (λ κs x s. x.now) list-input-low-in.Post
  pub high_in : Fixes (λ κs x s. x.now) list-input-high-in.Post

pub record StoresUnique : Type 0 where
  pub store_u8 : Fixes (λ κs x s. s.0.now) stores-store-u8.Post
  pub store_u16 : Fixes (λ κs x s. s.0.now) stores-store-u16.Post
  pub store_u32 : Fixes (λ κs x s. s.0.now) stores-store-u32.Post
  pub store_u64 : Fixes (λ κs x s. s.0.now) stores-store-u64.Post

pub record TextUnique : Type 0 where
  pub put : Fixes (λ κs x s. held_by s.0.now) text_put.Post
  pub page_shown : Fixes (λ κs x s. x.now) text-page-shown.Post
  pub shown : Fixes (λ κs x s. x.now) text-shown.Post
  pub decimal : Fixes (λ κs x s. held_by s.0.now) text-decimal.Post
  pub hex : Fixes (λ κs x s. held_by s.0.now) text-hex.Post
  pub labelled : Fixes (λ κs x s. held_by s.0.now) text-labelled.Post
  pub labelled_hex : Fixes (λ κs x s. held_by s.0.now) text-labelled-hex.Post

pub record FieldsUnique : Type 0 where
  pub field : Only fields-field.Post
  pub with_field : Only fields-with-field.Post
  pub word_of : Only fields-word-of.Post

pub record CaptureUnique : Type 0 where
  pub bar : Fixes (λ κs x s. x.now) capture-bar.Post
  pub part : Fixes (λ κs x s. x.now) capture-part.Post

pub record ReportUnique : Type 0 where
  pub refusal : Fixes (λ κs x s. held_by s.0.now) report-refusal.Post
  pub outcome : Fixes (λ κs x s. held_by s.0.now) report-outcome.Post
  pub value : Fixes (λ κs x s. held_by s.0.now) report-value.Post
  pub content : Fixes (λ κs x s. held_by s.0.now) report-content.Post
  pub place : Fixes (λ κs x s. held_by s.0.now) report-place.Post

pub record EnergyCallsUnique : Type 0 where
  pub count_of : Only energy-calls-count-of.Post
  pub reading_of : Only energy-calls-reading-of.Post
  pub opening_of : Only energy-calls-opening-of.Post
  pub number_of : Only energy-calls-number-of.Post

pub record EnergyChannelUnique : Type 0 where
  pub is_open : Only energy-channel-is-open.Post
  pub take : Only energy-channel-take.Post
  pub closed_channel : Only energy-channel-closed-channel.Post
  pub share : Only energy-channel-share.Post

pub record TpmiStructureUnique : Type 0 where
  pub vsec_at : Only tpmi-structure-vsec-at.Post
  pub read_call : Only tpmi-structure-read.Post
  pub write_call : Only tpmi-structure-write.Post
  pub write_call_kept : Fixes (λ κs x s. s.0.now) tpmi-structure-write.Post
  pub fixed_wrong : Only tpmi-structure-fixed-wrong.Post

pub record RaplDomainsUnique : Type 0 where
  pub read_call : Only rapl-domains-read.Post
  pub domain_in : Only rapl-domains-domain-in.Post

pub record TpmiEntriesUnique : Type 0 where
  pub entry_at : Only tpmi-entries-entry-at.Post
  pub read_call : Only tpmi-entries-read.Post
  pub write_call : Only tpmi-entries-write.Post
  pub write_call_kept : Fixes (λ κs x s. s.0.now) tpmi-entries-write.Post

pub record RaplUnitsUnique : Type 0 where
  pub read_call : Only rapl-units-read.Post
  pub write_call : Only rapl-units-write.Post

pub record TpmiBanksUnique : Type 0 where
  pub bank_in : Only tpmi-banks-bank-in.Post
  pub empty : Only tpmi-banks-empty.Post
  pub fault : Only tpmi-banks-fault.Post
  pub faults : Only tpmi-banks-faults.Post

pub record EnergyHallUnique : Type 0 where
  pub all_closed : Only energy-hall-all-closed.Post
  pub call_on : Only energy-hall-call-on.Post
  pub open_call : Only energy-hall-open.Post
  pub read_call : Only energy-hall-read.Post
  pub resume : Only energy-hall-resume.Post
  pub close_call : Only energy-hall-close.Post
  pub total : Only energy-hall-total.Post
  pub hall_total : Only energy-hall-hall-total.Post

pub record TpmiWalkUnique : Type 0 where
  pub walk : Only tpmi-walk-walk.Post

pub record RaplWindowsUnique : Type 0 where
  pub window_code : Only rapl-windows-window-code.Post
  pub quarters : Only rapl-windows-quarters.Post

pub record RaplRegistersUnique : Type 0 where
  pub present : Only rapl-registers-present.Post
  pub register_in : Only rapl-registers-register-in.Post

pub record RaplLimitsUnique : Type 0 where
  pub read_call : Only rapl-limits-read.Post
  pub write_call : Only rapl-limits-write.Post

pub record TpmiDiscoveryUnique : Type 0 where
  pub locate : Only tpmi-discovery-locate.Post
  pub discover : Only tpmi-discovery-discover.Post

pub record RaplPermitsUnique : Type 0 where
  pub span_of : Only rapl-permits-span-of.Post
  pub refusal : Only rapl-permits-refusal.Post

pub record TpmiFeaturesUnique : Type 0 where
  pub entry : Only tpmi-features-entry.Post
  pub feature : Only tpmi-features-feature.Post
  pub instance_place : Only tpmi-features-instance-place.Post
  pub instance : Fixes (λ κs x s. x.now) tpmi-features-instance.Post
  pub instance_number : Only tpmi-features-instance-number.Post

pub record RaplChainsUnique : Type 0 where
  pub chain_in : Only rapl-chains-chain-in.Post

pub record RaplLookupsUnique : Type 0 where
  pub domain : Only rapl-lookups-domain.Post
  pub register : Only rapl-lookups-register.Post
  pub chain : Only rapl-lookups-chain.Post

pub record TpmiCountsUnique : Type 0 where
  pub valid_count : Only tpmi-counts-valid-count.Post
  pub valid_in : Only tpmi-counts-valid-in.Post

pub record TpmiRegistersUnique : Type 0 where
  pub register_place : Only tpmi-registers-register-place.Post
  pub register : Only tpmi-registers-register.Post

pub record TpmiStoreUnique : Type 0 where
  pub store_low : Fixes (λ κs x s. s.1.1.1.1.0.now) tpmi-store-store.Post
  pub store_high : Fixes (λ κs x s. s.1.1.1.1.1.1.0.now) tpmi-store-store.Post

pub record RaplWritesUnique : Type 0 where
  pub next_in : Only rapl-writes-next-in.Post
  pub next : Only rapl-writes-next.Post
  pub write_call : Only rapl-writes-write.Post
  pub write_call_low : Fixes (λ κs x s. s.1.1.0.now) rapl-writes-write.Post
  pub write_call_high : Fixes (λ κs x s. s.1.1.1.1.0.now) rapl-writes-write.Post

pub record ListLinesUnique : Type 0 where
  pub unlisted_from : Only list-lines-unlisted-from.Post
  pub number_of : Only list-lines-number-of.Post
  pub listing_of : Only list-lines-listing-of.Post
  pub bar_in : Fixes (λ κs x s. x.now) list-lines-bar-in.Post
  pub line_of : Only list-lines-line-of.Post

pub record ListOutputUnique : Type 0 where
  pub list : Only list-output-list.Post
  pub list_kept : Fixes (λ κs x s. s.1.0.now) list-output-list.Post

pub record RecordsUnique : Type 0 where
  pub begin : Only records-begin.Post
  pub length_of : Only records-length-of.Post
  pub is_stopped : Only records-is-stopped.Post
  pub ended : Only records-ended.Post
  pub gather : Only records-gather.Post

pub record RecordsBodyUnique : Type 0 where
  pub numbers : Only records-body-numbers.Post
  pub put_numbers : Fixes (λ κs x s. s.0.now) records-body-put-numbers.Post

pub record ReplayTraceUnique : Type 0 where
  pub call_of : Only replay-trace-call-of.Post
  pub write_record : Only replay-trace-write-record.Post
  pub write_record_kept : Fixes (λ κs x s. s.0.now) replay-trace-write-record.Post

pub record ReplayStepsUnique : Type 0 where
  pub start : Only replay-steps-start.Post
  pub step : Only replay-steps-step.Post
  pub ended : Only replay-steps-ended.Post

pub record ReplayLinesUnique : Type 0 where
  pub record_line : Fixes (λ κs x s. held_by s.0.now) replay-lines-record-line.Post
  pub stop_line : Fixes (λ κs x s. held_by s.0.now) replay-lines-stop-line.Post
  pub open_lines : Only replay-lines-open-lines.Post
  pub open_lines_kept : Fixes (λ κs x s. s.0.now) replay-lines-open-lines.Post

pub record SweepReadingsUnique : Type 0 where
  pub asked_of : Only sweep-readings-asked-of.Post
  pub unfit : Only sweep-readings-unfit.Post
  pub sweep_array : Only sweep-readings-sweep-array.Post
  pub sweep_array_kept : Fixes (λ κs x s. s.1.1.0.now) sweep-readings-sweep-array.Post

-- (What the contract of `sweep` says stands as a plain statement in proofs/lent/unread of its crate, with proofs that the contract and the
-- prover's reading of it say nothing else.)
pub record SweepLentUnique : Type 0 where
  pub sweep : Only sweep-lent-sweep.Post
  pub sweep_channels : Fixes (λ κs x s. s.0.now) sweep-lent-sweep.Post
  pub sweep_answers : Fixes (λ κs x s. s.1.1.0.now) sweep-lent-sweep.Post
  pub sweep_own : Only sweep-lent-sweep-own.Post
  pub sweep_own_kept : Fixes (λ κs x s. s.1.1.0.now) sweep-lent-sweep-own.Post

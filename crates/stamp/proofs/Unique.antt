-- The records of specs/Unique: where a contract is an equation two results are equal at once, and where it says what an enum tells, since
-- that is injective. Assumes nothing.
use mathlib.Core.Path.{sym, ap, ◌∙◌}
use Rattle.words.specs.Told.{passes}
use Rattle.words.proofs.Told as words
use Rattle.tpmi_structure.proofs.Theorems as structure
use Rattle.tpmi_walk.proofs.Told as walk
use Rattle.tpmi_entries.proofs.Theorems as entries
use Rattle.capture.proofs.Told as places
use Rattle.tpmi_discovery.proofs.Told as discovery
use Rattle.list_input.proofs.Told as layout
use Rattle.list_lines.proofs.Told as listing
use Rattle.rapl_domains.proofs.Told as domains
use Rattle.energy_calls.proofs.Theorems as calls
use Rattle.energy_channel.proofs.Theorems as channel
use Rattle.energy_hall.proofs.Theorems as energy
use Rattle.replay_trace.proofs.Theorems as trace
use Rattle.replay_steps.proofs.Told as steps
use Rattle.sweep_readings.proofs.Theorems as sweeps
use Rattle.stamp.proofs.SamePage.{same_page}
use Rattle.stamp.specs.Unique.{WordsUnique, ListInputUnique, StoresUnique, TextUnique, FieldsUnique, CaptureUnique, ReportUnique, EnergyCallsUnique, EnergyChannelUnique, TpmiStructureUnique, RaplDomainsUnique, TpmiEntriesUnique, RaplUnitsUnique, TpmiBanksUnique, EnergyHallUnique, TpmiWalkUnique, RaplWindowsUnique, RaplRegistersUnique, RaplLimitsUnique, TpmiDiscoveryUnique, RaplPermitsUnique, TpmiFeaturesUnique, RaplChainsUnique, RaplLookupsUnique, TpmiCountsUnique, TpmiRegistersUnique, TpmiStoreUnique, RaplWritesUnique, ListLinesUnique, ListOutputUnique, RecordsUnique, RecordsBodyUnique, ReplayTraceUnique, ReplayStepsUnique, ReplayLinesUnique, SweepReadingsUnique, SweepLentUnique}

pub words_unique : WordsUnique
words_unique =
    record {
      number_of = λ T l c g d κs a x y s t p q. p ∙ sym q;
      u8_at = λ κs a x y s t p q. p ∙ sym q;
      u16_at = λ κs a x y s t p q. p ∙ sym q;
      u32_at = λ κs a x y s t p q. p ∙ sym q;
      u64_at = λ κs a x y s t p q. p ∙ sym q;
    }

pub list_input_unique : ListInputUnique
list_input_unique =
    record {
      layout_of = λ κs a x y s t p q. layout.told_once x y (p ∙ sym q);
      config_in = λ κs a x y s t p q. p ∙ sym q;
      low_in = λ κs a x y s t p q. p ∙ sym q;
      high_in = λ κs a x y s t p q. p ∙ sym q;
    }

pub stores_unique : StoresUnique
stores_unique =
    record {
      store_u8 = λ κs a x y s t p q. p ∙ sym q;
      store_u16 = λ κs a x y s t p q. p ∙ sym q;
      store_u32 = λ κs a x y s t p q. p ∙ sym q;
      store_u64 = λ κs a x y s t p q. p ∙ sym q;
    }

pub text_unique : TextUnique
text_unique =
    record {
      put = λ κs a x y s t p q. same_page p q;
      page_shown = λ κs a x y s t p q. p ∙ sym q;
      shown = λ κs a x y s t p q. p ∙ sym q;
      decimal = λ κs a x y s t p q. same_page p q;
      hex = λ κs a x y s t p q. same_page p q;
      labelled = λ κs a x y s t p q. same_page p q;
      labelled_hex = λ κs a x y s t p q. same_page p q;
    }

pub fields_unique : FieldsUnique
fields_unique =
    record {
      field = λ κs a x y s t p q. p ∙ sym q;
      with_field = λ κs a x y s t p q. p ∙ sym q;
      word_of = λ κs a x y s t p q. words.told_once x y (p ∙ sym q);
    }

pub capture_unique : CaptureUnique
capture_unique =
    record {
      bar = λ κs a x y s t p q. p ∙ sym q;
      part = λ κs a x y s t p q. p ∙ sym q;
    }

pub report_unique : ReportUnique
report_unique =
    record {
      refusal = λ κs a x y s t p q. same_page p q;
      outcome = λ κs a x y s t p q. same_page p q;
      value = λ κs a x y s t p q. same_page p q;
      content = λ κs a x y s t p q. same_page p q;
      place = λ κs a x y s t p q. same_page p q;
    }

pub energy_calls_unique : EnergyCallsUnique
energy_calls_unique =
    record {
      count_of = λ κs a x y s t p q. p ∙ sym q;
      reading_of = λ κs a x y s t p q. p ∙ sym q;
      opening_of = λ κs a x y s t p q. p ∙ sym q;
      number_of = λ κs a x y s t p q. p ∙ sym q;
    }

pub energy_channel_unique : EnergyChannelUnique
energy_channel_unique =
    record {
      is_open = λ κs a x y s t p q. p ∙ sym q;
      take = λ κs a x y s t p q. channel.one_after _ _ x y p.0 p.1 q.0 q.1;
      closed_channel = λ κs a x y s t p q. p ∙ sym q;
      share = λ κs a x y s t p q. p ∙ sym q;
    }

pub tpmi_structure_unique : TpmiStructureUnique
tpmi_structure_unique =
    record {
      vsec_at = λ κs a x y s t p q. p ∙ sym q;
      read_call = λ κs a x y s t p q. structure.told_once x y (p ∙ sym q);
      write_call = λ κs a x y s t p q. words.done_once x y (p.0 ∙ sym q.0);
      write_call_kept = λ κs a x y s t p q. p.1 ∙ sym q.1;
      fixed_wrong = λ κs a x y s t p q. p ∙ sym q;
    }

pub rapl_domains_unique : RaplDomainsUnique
rapl_domains_unique =
    record {
      read_call = λ κs a x y s t p q. p ∙ sym q;
      domain_in = λ κs a x y s t p q. domains.told_once x y (p ∙ sym q);
    }

pub tpmi_entries_unique : TpmiEntriesUnique
tpmi_entries_unique =
    record {
      entry_at = λ κs a x y s t p q. p ∙ sym q;
      read_call = λ κs a x y s t p q. entries.told_once x y (p ∙ sym q);
      write_call = λ κs a x y s t p q. words.done_once x y (p.0 ∙ sym q.0);
      write_call_kept = λ κs a x y s t p q. p.1 ∙ sym q.1;
    }

pub rapl_units_unique : RaplUnitsUnique
rapl_units_unique =
    record {
      read_call = λ κs a x y s t p q. p ∙ sym q;
      write_call = λ κs a x y s t p q. words.told_once x y (p ∙ sym q);
    }

pub tpmi_banks_unique : TpmiBanksUnique
tpmi_banks_unique =
    record {
      bank_in = λ κs a x y s t p q. p.0 ∙ sym q.0;
      empty = λ κs a x y s t p q. p ∙ sym q;
      fault = λ κs a x y s t p q. words.done_once x y (p ∙ sym q);
      faults = λ κs a x y s t p q. words.done_once x y (p ∙ sym q);
    }

pub energy_hall_unique : EnergyHallUnique
energy_hall_unique =
    record {
      all_closed = λ κs a x y s t p q. p ∙ sym q;
      call_on = λ κs a x y s t p q. energy.one_hall_after _ _ _ x y p.0 p.1 q.0 q.1;
      open_call = λ κs a x y s t p q. energy.one_hall_after _ _ _ x y p.0 p.1 q.0 q.1;
      read_call = λ κs a x y s t p q. energy.one_hall_after _ _ _ x y p.0 p.1 q.0 q.1;
      resume = λ κs a x y s t p q. energy.one_hall_after _ _ _ x y p.0 p.1 q.0 q.1;
      close_call = λ κs a x y s t p q. energy.one_hall_after _ _ _ x y p.0 p.1 q.0 q.1;
      total = λ κs a x y s t p q. calls.told_once x y (p ∙ sym q);
      hall_total = λ κs a x y s t p q. calls.told_once x y (p ∙ sym q);
    }

pub tpmi_walk_unique : TpmiWalkUnique
tpmi_walk_unique =
    record {
      walk = λ κs a x y s t p q. walk.told_once x y (p ∙ sym q);
    }

pub rapl_windows_unique : RaplWindowsUnique
rapl_windows_unique =
    record {
      window_code = λ κs a x y s t p q. words.told_once x y (p ∙ sym q);
      quarters = λ κs a x y s t p q. p ∙ sym q;
    }

pub rapl_registers_unique : RaplRegistersUnique
rapl_registers_unique =
    record {
      present = λ κs a x y s t p q. p ∙ sym q;
      register_in = λ κs a x y s t p q. words.told_once x y (p ∙ sym q);
    }

pub rapl_limits_unique : RaplLimitsUnique
rapl_limits_unique =
    record {
      read_call = λ κs a x y s t p q. p ∙ sym q;
      write_call = λ κs a x y s t p q. words.told_once x y (p ∙ sym q);
    }

pub tpmi_discovery_unique : TpmiDiscoveryUnique
tpmi_discovery_unique =
    record {
      locate = λ κs a x y s t p q. discovery.told_once x y (p ∙ sym q);
      discover = λ κs a x y s t p q. discovery.told_once x y (p ∙ sym q);
    }

pub rapl_permits_unique : RaplPermitsUnique
rapl_permits_unique =
    record {
      span_of = λ κs a x y s t p q. p ∙ sym q;
      refusal = λ κs a x y s t p q. words.done_once x y (p ∙ sym q);
    }

pub tpmi_features_unique : TpmiFeaturesUnique
tpmi_features_unique =
    record {
      entry = λ κs a x y s t p q. entries.told_once x y (p ∙ sym q);
      feature = λ κs a x y s t p q. places.told_once x y (p ∙ sym q);
      instance_place = λ κs a x y s t p q. places.told_once x y (p ∙ sym q);
      instance = λ κs a x y s t p q. p ∙ sym q;
      instance_number = λ κs a x y s t p q. p ∙ sym q;
    }

pub rapl_chains_unique : RaplChainsUnique
rapl_chains_unique =
    record {
      chain_in = λ κs a x y s t p q. words.told_once x y (p ∙ sym q);
    }

pub rapl_lookups_unique : RaplLookupsUnique
rapl_lookups_unique =
    record {
      domain = λ κs a x y s t p q. domains.told_once x y (p ∙ sym q);
      register = λ κs a x y s t p q. words.told_once x y (p ∙ sym q);
      chain = λ κs a x y s t p q. words.told_once x y (p ∙ sym q);
    }

pub tpmi_counts_unique : TpmiCountsUnique
tpmi_counts_unique =
    record {
      valid_count = λ κs a x y s t p q. words.told_once x y (p ∙ sym q);
      valid_in = λ κs a x y s t p q. p ∙ sym q;
    }

pub tpmi_registers_unique : TpmiRegistersUnique
tpmi_registers_unique =
    record {
      register_place = λ κs a x y s t p q. places.told_once x y (p ∙ sym q);
      register = λ κs a x y s t p q. words.told_once x y (p ∙ sym q);
    }

pub tpmi_store_unique : TpmiStoreUnique
tpmi_store_unique =
    record {
      store_low = λ κs a x y s t p q. p.0 ∙ sym q.0;
      store_high = λ κs a x y s t p q. p.1 ∙ sym q.1;
    }

pub rapl_writes_unique : RaplWritesUnique
rapl_writes_unique =
    record {
      next_in = λ κs a x y s t p q. words.told_once x y (p ∙ sym q);
      next = λ κs a x y s t p q. words.told_once x y (p ∙ sym q);
      write_call = λ κs a x y s t p q. words.done_once x y (p.0 ∙ sym q.0);
      write_call_low = λ κs a x y s t p q. p.1.0 ∙ sym q.1.0;
      write_call_high = λ κs a x y s t p q. p.1.1 ∙ sym q.1.1;
    }

pub list_lines_unique : ListLinesUnique
list_lines_unique =
    record {
      unlisted_from = λ κs a x y s t p q. p ∙ sym q;
      number_of = λ κs a x y s t p q. p ∙ sym q;
      listing_of = λ κs a x y s t p q. listing.listing_told_once x y (p ∙ sym q);
      bar_in = λ κs a x y s t p q. p ∙ sym q;
      line_of = λ κs a x y s t p q. listing.line_told_once x y (p ∙ sym q);
    }

pub list_output_unique : ListOutputUnique
list_output_unique =
    record {
      list = λ κs a x y s t p q. words.told_once x y (p.0 ∙ sym q.0);
      list_kept = λ κs a x y s t p q. p.1 ∙ sym q.1;
    }

pub records_unique : RecordsUnique
records_unique =
    record {
      begin = λ κs a x y s t p q. p ∙ sym q;
      length_of = λ κs a x y s t p q. p ∙ sym q;
      is_stopped = λ κs a x y s t p q. p ∙ sym q;
      ended = λ κs a x y s t p q. p ∙ sym q;
      gather = λ κs a x y s t p q. p ∙ sym q;
    }

pub records_body_unique : RecordsBodyUnique
records_body_unique =
    record {
      numbers = λ κs a x y s t p q. p ∙ sym q;
      put_numbers = λ κs a x y s t p q. p ∙ sym q;
    }

pub replay_trace_unique : ReplayTraceUnique
replay_trace_unique =
    record {
      call_of = λ κs a x y s t p q. trace.told_once x y (p ∙ sym q);
      write_record = λ κs a x y s t p q. words.told_once x y (p.0 ∙ sym q.0);
      write_record_kept = λ κs a x y s t p q. p.1 ∙ sym q.1;
    }

pub replay_steps_unique : ReplayStepsUnique
replay_steps_unique =
    record {
      start = λ κs a x y s t p q. steps.reader_once x y (p ∙ sym q);
      step = λ κs a x y s t p q. steps.told_once x y (p ∙ sym q);
      ended = λ κs a x y s t p q. steps.told_once x y (p ∙ sym q);
    }

pub replay_lines_unique : ReplayLinesUnique
replay_lines_unique =
    record {
      record_line = λ κs a x y s t p q. same_page p q;
      stop_line = λ κs a x y s t p q. same_page p q;
      open_lines = λ κs a x y s t p q. words.told_once x y (p.0 ∙ sym q.0);
      open_lines_kept = λ κs a x y s t p q. p.1 ∙ sym q.1;
    }

pub sweep_readings_unique : SweepReadingsUnique
sweep_readings_unique =
    record {
      asked_of = λ κs a x y s t p q. p ∙ sym q;
      unfit = λ κs a x y s t p q. words.done_once x y (p ∙ sym q);
      sweep_array = λ κs a x y s t p q. sweeps.one_swept _ _ _ x y p.0.0 p.1 p.0.1 q.0.0 q.1 q.0.1;
      sweep_array_kept = λ κs a x y s t p q. p.0.2 ∙ sym q.0.2;
    }

pub sweep_lent_unique : SweepLentUnique
sweep_lent_unique =
    record {
      sweep = λ κs a x y s t p q. words.done_once x y (p.1 ∙ ap passes (p.0.0 ∙ sym q.0.0) ∙ sym q.1);
      sweep_channels = λ κs a x y s t p q. p.0.1 ∙ sym q.0.1;
      sweep_answers = λ κs a x y s t p q. p.0.2 ∙ sym q.0.2;
      sweep_own = λ κs a x y s t p q. sweeps.one_swept _ _ _ x y p.0.0 p.1 p.0.1 q.0.0 q.1 q.0.1;
      sweep_own_kept = λ κs a x y s t p q. p.0.2 ∙ sym q.0.2;
    }

-- The records of specs/UniqueUncore, as those of specs/Unique. Assumes nothing.
use mathlib.Core.Path.{sym, ◌∙◌}
use Rattle.words.proofs.Told as words
use Rattle.capture.proofs.Told as places
use Rattle.stamp.proofs.SamePage.{same_page}
use Rattle.stamp.specs.UniqueUncore.{UncoreRegistersUnique, UncoreControlsUnique, UncoreClustersUnique, UncoreLookupsUnique, UncorePermitsUnique, UncoreWritesUnique, UncoreLinesUnique}

pub uncore_registers_unique : UncoreRegistersUnique
uncore_registers_unique =
    record {
      header_read = λ κs a x y s t p q. p ∙ sym q;
      header_write = λ κs a x y s t p q. words.told_once x y (p ∙ sym q);
      offsets_read = λ κs a x y s t p q. p ∙ sym q;
      offsets_write = λ κs a x y s t p q. words.told_once x y (p ∙ sym q);
      status_read = λ κs a x y s t p q. p ∙ sym q;
      status_write = λ κs a x y s t p q. words.told_once x y (p ∙ sym q);
    }

pub uncore_controls_unique : UncoreControlsUnique
uncore_controls_unique =
    record {
      control_read = λ κs a x y s t p q. p ∙ sym q;
      control_write = λ κs a x y s t p q. words.told_once x y (p ∙ sym q);
      advanced1_read = λ κs a x y s t p q. p ∙ sym q;
      advanced1_write = λ κs a x y s t p q. words.told_once x y (p ∙ sym q);
      advanced2_read = λ κs a x y s t p q. p ∙ sym q;
      advanced2_write = λ κs a x y s t p q. words.told_once x y (p ∙ sym q);
    }

pub uncore_clusters_unique : UncoreClustersUnique
uncore_clusters_unique =
    record {
      count_of = λ κs a x y s t p q. p ∙ sym q;
      clusters_in = λ κs a x y s t p q. p ∙ sym q;
      fabric_in = λ κs a x y s t p q. words.told_once x y (p ∙ sym q);
      place_in = λ κs a x y s t p q. words.told_once x y (p ∙ sym q);
      content_in = λ κs a x y s t p q. words.told_once x y (p ∙ sym q);
    }

pub uncore_lookups_unique : UncoreLookupsUnique
uncore_lookups_unique =
    record {
      clusters = λ κs a x y s t p q. words.told_once x y (p ∙ sym q);
      global = λ κs a x y s t p q. words.told_once x y (p ∙ sym q);
      place = λ κs a x y s t p q. places.told_once x y (p ∙ sym q);
      content = λ κs a x y s t p q. words.told_once x y (p ∙ sym q);
    }

pub uncore_permits_unique : UncorePermitsUnique
uncore_permits_unique =
    record {
      next_word = λ κs a x y s t p q. words.told_once x y (p ∙ sym q);
    }

pub uncore_writes_unique : UncoreWritesUnique
uncore_writes_unique =
    record {
      next_in = λ κs a x y s t p q. words.told_once x y (p ∙ sym q);
      next = λ κs a x y s t p q. words.told_once x y (p ∙ sym q);
      write_call = λ κs a x y s t p q. words.done_once x y (p.0 ∙ sym q.0);
      write_call_low = λ κs a x y s t p q. p.1.0 ∙ sym q.1.0;
      write_call_high = λ κs a x y s t p q. p.1.1 ∙ sym q.1.1;
    }

pub uncore_lines_unique : UncoreLinesUnique
uncore_lines_unique =
    record {
      instance_line = λ κs a x y s t p q. same_page p q;
      cluster_line = λ κs a x y s t p q. same_page p q;
      refused_line = λ κs a x y s t p q. same_page p q;
    }

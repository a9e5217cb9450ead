-- The records of specs/UniqueReasons, as those of specs/Unique. Assumes nothing.
use mathlib.Core.Path.{sym, ◌∙◌}
use Rattle.words.proofs.Told as words
use Rattle.capture.proofs.Told as places
use Rattle.reasons_mailbox.proofs.Told.{begun_once, told_once}
use Rattle.stamp.proofs.SamePage.{same_page}
use Rattle.stamp.specs.UniqueReasons.{ReasonsRegistersUnique, ReasonsLookupsUnique, ReasonsFoldUnique, ReasonsMailboxUnique, ReasonsLinesUnique}

pub reasons_registers_unique : ReasonsRegistersUnique
reasons_registers_unique =
    record {
      plr_header_read = λ κs a x y s t p q. p ∙ sym q;
      plr_header_write = λ κs a x y s t p q. words.told_once x y (p ∙ sym q);
      mailbox_interface_read = λ κs a x y s t p q. p ∙ sym q;
      mailbox_interface_write = λ κs a x y s t p q. words.told_once x y (p ∙ sym q);
      mailbox_data_read = λ κs a x y s t p q. p ∙ sym q;
      mailbox_data_write = λ κs a x y s t p q. words.told_once x y (p ∙ sym q);
      die_level_read = λ κs a x y s t p q. p ∙ sym q;
      die_level_write = λ κs a x y s t p q. words.told_once x y (p ∙ sym q);
    }

pub reasons_lookups_unique : ReasonsLookupsUnique
reasons_lookups_unique =
    record {
      place = λ κs a x y s t p q. places.told_once x y (p ∙ sym q);
      content = λ κs a x y s t p q. words.told_once x y (p ∙ sym q);
    }

pub reasons_fold_unique : ReasonsFoldUnique
reasons_fold_unique =
    record {
      fold = λ κs a x y s t p q. p ∙ sym q;
      joined = λ κs a x y s t p q. p ∙ sym q;
    }

pub reasons_mailbox_unique : ReasonsMailboxUnique
reasons_mailbox_unique =
    record {
      start = λ κs a x y s t p q. begun_once x y (p ∙ sym q);
      step = λ κs a x y s t p q. told_once x y (p ∙ sym q);
    }

pub reasons_lines_unique : ReasonsLinesUnique
reasons_lines_unique =
    record {
      reasons_line = λ κs a x y s t p q. same_page p q;
      exchange_line = λ κs a x y s t p q. same_page p q;
      test_line = λ κs a x y s t p q. same_page p q;
    }

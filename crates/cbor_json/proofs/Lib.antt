mod ContentLaws
mod ContentQuotes
mod ItemReadLaws
mod ItemWriteLaws
mod MoveLaws
mod ReadingLaws
mod ScalarLaws
mod StringLaws

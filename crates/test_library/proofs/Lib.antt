mod ReadyLaws
